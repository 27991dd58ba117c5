use Rattle.std.proofs.Common.{◌<◌, sym, subst}
use Rattle.dm_world.specs.Fed.{octets_to_come}
use Rattle.dm_world.specs.Way.{Way}
use Rattle.dm_world.proofs.Fed.{fed_piece}
use Rattle.dm_world.proofs.direction.Direction.deliver_octets.Goals as goal

pub invariant_of-self : goal.invariant_of-self
invariant_of-self c =
    let below =
    subst (λ (w : Way). c.args.count < octets_to_come w.direction.messages w.direction.taken) (sym c.self.view_is)
    c.requires in
    let front = rw c.in-Some.is at c.front_message.ensures in
    fed_piece c.self.inside.queue.items c.self.inside.taken c.args.count c.self.inside.framer c.feed.new.self
    c.in-Some.message.now c.self.invariant below front c.in-Ok.ensures.fed
