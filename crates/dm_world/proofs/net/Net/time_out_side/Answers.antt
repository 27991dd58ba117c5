use Rattle.std.proofs.Common.{refl, arith}
use Rattle.dm_peer.specs.Events.{Timeout}
use Rattle.dm_world.specs.Asking.{peer_of}
use Rattle.dm_world.specs.Seen.{as_side}
use Rattle.dm_world.proofs.Silent.{silent_room, timeout_wants_none}
use Rattle.dm_world.proofs.Telling.{done_step}
use Rattle.dm_world.proofs.net.Net.time_out_side.Goals as goal

pub perform_sends_and_closes-requires-clause-frames : goal.perform_sends_and_closes-requires-clause-frames
perform_sends_and_closes-requires-clause-frames c =
    let answer = rw c.in-Ok-Some.field-0-is at c.in-Ok-Some.ensures.answer in
    c.every_message_sent_is_a_frame.ensures (peer_of (as_side c.args.side) c.args.self.now.pair)
    (peer_of (as_side c.args.side) c.ask_side.new.self) Timeout c.in-Ok-Some.actions.items (λ i. omega arith) answer.0

pub perform_sends_and_closes-requires-clause-room : goal.perform_sends_and_closes-requires-clause-room
perform_sends_and_closes-requires-clause-room c =
    let answer = rw c.in-Ok-Some.field-0-is at c.in-Ok-Some.ensures.answer in
    silent_room (as_side c.args.side) Timeout c.args.self.now c.ask_side.new.self c.in-Ok-Some.actions
    c.args.self.now.links.items c.starts_timeouts_drops_take_no_memory.ensures c.ask_side.ensures.shaped refl answer

pub unreachable-requires : goal.unreachable-requires
unreachable-requires c =
    timeout_wants_none (as_side c.args.side) c.args.self.now c.starts_timeouts_drops_take_no_memory.ensures c.ask_side.ensures.shaped
    c.in-Err.ensures.want

pub returns-in-Ok-Some : goal.returns-in-Ok-Some
returns-in-Ok-Some c =
    let answer = rw c.in-Ok-Some.field-0-is at c.in-Ok-Some.ensures.answer in
    done_step (as_side c.args.side) Timeout c.args.self.now
    (record { pair = c.ask_side.new.self; links = c.perform_sends_and_closes.new.links }) c.in-Ok-Some.actions answer
    c.perform_sends_and_closes.ensures
