use Rattle.dm_peer.specs.Events.{event_told}
use Rattle.dm_octet_peers.specs.Octets.{as_event}
use Rattle.dm_world.specs.Seen.{as_side}
use Rattle.dm_world.proofs.Telling.{done_step, ignored_step, followed}
use Rattle.dm_world.proofs.net.Net.tell_side.Goals as goal

pub follow_event_on_links-requires-clause-sends : goal.follow_event_on_links-requires-clause-sends
follow_event_on_links-requires-clause-sends c = rw c.in-Ok-Some.field-0-is at c.in-Ok-Some.ensures.sends

pub returns-in-Ok-Some-clause-step : goal.returns-in-Ok-Some-clause-step
returns-in-Ok-Some-clause-step c =
    let answer = rw c.in-Ok-Some.field-0-is at c.in-Ok-Some.ensures.answer in
    done_step (as_side c.args.side) (event_told c.args.event) c.args.self.now
    (record { pair = c.make_room_and_ask.new.self.pair; links = c.follow_event_on_links.new.links }) c.in-Ok-Some.actions answer
    (followed _ (as_event (event_told c.args.event)) c.in-Ok-Some.actions.items _ _ _ _ _ c.peer_at-peer.ensures c.make_room_and_ask.ensures.same
    c.follow_event_on_links.ensures)

pub returns-in-Ok-None-clause-step : goal.returns-in-Ok-None-clause-step
returns-in-Ok-None-clause-step c =
    let answer = rw c.in-Ok-None.field-0-is at c.in-Ok-None.ensures.answer in
    ignored_step (as_side c.args.side) (event_told c.args.event) c.args.self.now c.make_room_and_ask.new.self answer c.make_room_and_ask.ensures.same
