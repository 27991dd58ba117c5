use Rattle.std.proofs.Common.{Some, slice_get, ap, ◌∙◌}
use Rattle.std.specs.Prelude.{ℕ, List}
use Rattle.dm_two_peers.specs.Links.{Direction}
use Rattle.dm_world.specs.Seen.{as_side, as_links}
use Rattle.dm_world.specs.Views.{as_world}
use Rattle.dm_world.proofs.Hearing.{front_read, heard_result}
use Rattle.dm_world.proofs.net.Net.hear_front_message.Goals as goal

pub returns-in-Some-clause-step : goal.returns-in-Some-clause-step
returns-in-Some-clause-step c =
    let read = rw c.in-Some.is at c.in_ok-message.ensures.message in
    heard_result c.tell_side.result (as_side c.args.side) c.args.index c.as_slice.result.now
    (slice_get (as_links c.args.self.now.links.items) c.args.index) (as_world c.args.self.now)
    (as_world c.tell_side.new.self)
    (λ x front. front_read (as_side c.args.side) c.args.index c.args.self.now.links.items c.index.result.now x
    c.as_slice.result.now c.requires.there c.index.ensures
    (ap Some c.as_slice.ensures.value ∙ read ∙
    ap (λ (d : Direction (List ℕ)). slice_get d.messages 0) c.direction_to.ensures) front)
    c.tell_side.ensures.step
