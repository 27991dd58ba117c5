use Rattle.dm_world.specs.Happening.{as_happening}
use Rattle.dm_world.specs.Views.{as_world}
use Rattle.dm_world.proofs.Keeps.{KeepingLaws, kept_result}
use Rattle.dm_world.proofs.Named.{named_result}
use Rattle.dm_world.proofs.Pasts.{past_result}
use Rattle.dm_world.proofs.world.World.apply.Goals as goal

pub invariant_of-self : goal.invariant_of-self
invariant_of-self c =
    let laws : KeepingLaws =
    record {
      machine = c.octet_peers_move_as_the_machine.ensures;
      sound = c.each_happening_keeps_worlds_sound.ensures;
      peers = c.octet_peers_begin_and_stay_paired.ensures.kept;
      cut = c.no_front_message_is_fully_delivered.ensures.step;
      sized = c.octet_peers_send_no_empty_message.ensures;
    } in
    record {
      kept = kept_result c.apply.result (as_happening c.args.happening.now) (as_world c.self.inside.net)
          (as_world c.apply.new.self) laws c.self.invariant.kept c.apply.ensures.step c.apply.ensures.unchanged;
      past = past_result c.apply.result c.args.happening.now (as_world c.self.inside.net) (as_world c.apply.new.self)
          c.self.invariant.past c.apply.ensures.step c.apply.ensures.unchanged;
      named = named_result c.apply.result c.args.happening.now (as_world c.self.inside.net) (as_world c.apply.new.self)
          c.self.inside.made c.apply.new.made c.only_acks_make_ends_fresh.ensures c.self.invariant.named c.apply.ensures.step
          c.apply.ensures.unchanged c.apply.ensures.made c.apply.ensures.same;
    }
