use Rattle.dm_peer.specs.Events.{event_told}
use Rattle.dm_octet_peers.specs.Octets.{as_event}
use Rattle.dm_world.specs.Asking.{peer_of}
use Rattle.dm_world.specs.Rooms.{HasRoomToSend, named}
use Rattle.dm_world.specs.Seen.{as_side}
use Rattle.dm_world.proofs.Sending.{SendLaws}
use Rattle.dm_world.proofs.Telling.{can_send, room_seen}
use Rattle.dm_world.proofs.net.Net.make_room_and_ask.Goals as goal

pub returns-clause-sends : goal.returns-clause-sends
returns-clause-sends c =
    let laws : SendLaws =
    record {
      machine = c.octet_peers_move_as_the_machine.ensures;
      alone = c.given_up_is_closed_unnamed_stays_unheld.ensures.alone;
      keeps = c.steps_keep_shape_in_few_commands.ensures;
    } in
    let room : HasRoomToSend (as_side c.args.side) c.make_room_for_sends.new.links.items
    (peer_of (as_side c.args.side) c.args.self.now.pair).standing.core (named (as_event (event_told c.args.event))) =
    room_seen _ _ _ _ _ _ c.peer_at.ensures c.named_link.ensures c.in_ok-make_room_for_sends.ensures.room in
    can_send c.ask_side.result (as_side c.args.side) (event_told c.args.event) c.args.self.now.pair c.ask_side.new.self
    c.make_room_for_sends.new.links.items laws c.every_message_sent_is_a_frame.ensures c.requires.octets c.ask_side.ensures.shaped room
    c.ask_side.ensures.answer
