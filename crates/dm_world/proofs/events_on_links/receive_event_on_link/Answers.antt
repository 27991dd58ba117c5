use Rattle.std.proofs.Common.{arith}
use Rattle.dm_peer.specs.Events.{event_told}
use Rattle.dm_world.specs.Seen.{as_side, as_links}
use Rattle.dm_world.proofs.Changed.{changed, not_changed, room_moves}
use Rattle.dm_world.proofs.Hearing.{entered_at, entered_none}
use Rattle.dm_world.proofs.events_on_links.receive_event_on_link.Goals as goal

pub returns-then-index-len-clause-entered : goal.returns-then-index-len-clause-entered
returns-then-index-len-clause-entered c =
    entered_at (as_side c.args.side) (event_told c.args.event) _ c.in-Some.conn _ _ c.requires.known
    c.named_link.ensures
    c.in-Some.is
    (changed _ _ _ _ _ c.index_mut.ensures.value (omega (arith, c.args.links.now.ok.0)) c.receive_event.ensures.entered)

pub returns-else-index-len-clause-entered : goal.returns-else-index-len-clause-entered
returns-else-index-len-clause-entered c =
    entered_at (as_side c.args.side) (event_told c.args.event) _ c.in-Some.conn _ _ c.requires.known
    c.named_link.ensures
    c.in-Some.is (not_changed _ _ _ (omega (arith, c.args.links.now.ok.0)))

pub returns-then-index-len-clause-room : goal.returns-then-index-len-clause-room
returns-then-index-len-clause-room c =
    λ n d has. room_moves _ n n _ d _ _ _ c.index_mut.ensures.value (omega arith)
    (λ h. omega (arith, c.receive_event.ensures.room)) has

pub returns-in-None-clause-entered : goal.returns-in-None-clause-entered
returns-in-None-clause-entered c =
    entered_none (as_side c.args.side) (event_told c.args.event) _ (as_links c.args.links.now.items)
    c.named_link.ensures
    c.in-None.is
