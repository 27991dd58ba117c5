use Rattle.std.proofs.Common.{◌≡◌, length, ◌∙◌, sym, ap, refl, arith}
use Rattle.dm_two_peers.specs.Machine.{conn}
use Rattle.dm_peer.specs.Events.{Start}
use Rattle.dm_world.specs.Asking.{peer_of}
use Rattle.dm_world.specs.Seen.{as_side, as_links}
use Rattle.dm_world.proofs.Changed.{length_links}
use Rattle.dm_world.proofs.Silent.{silent_room}
use Rattle.dm_world.proofs.Telling.{started, not_started, start_links}
use Rattle.dm_world.proofs.net.Net.start_next_link.Goals as goal

pub perform_sends_and_closes-requires-clause-frames : goal.perform_sends_and_closes-requires-clause-frames
perform_sends_and_closes-requires-clause-frames c =
    let answer = rw c.in-Some.is at c.in_ok-ask_side.ensures.answer in
    c.every_message_sent_is_a_frame.ensures (peer_of (as_side c.args.side) c.args.self.now.pair)
    (peer_of (as_side c.args.side) c.ask_side.new.self) (Start (conn c.len.result)) c.in-Some.actions.items
    (λ i. omega arith) answer.0

pub perform_sends_and_closes-requires-clause-room : goal.perform_sends_and_closes-requires-clause-room
perform_sends_and_closes-requires-clause-room c =
    let answer = rw c.in-Some.is at c.in_ok-ask_side.ensures.answer in
    silent_room (as_side c.args.side) (Start (conn c.len.result)) c.args.self.now c.ask_side.new.self c.in-Some.actions
    c.push_reserved.new.self.items c.starts_timeouts_drops_take_no_memory.ensures c.ask_side.ensures.shaped refl answer

pub returns-in-None-clause-step : goal.returns-in-None-clause-step
returns-in-None-clause-step c =
    let answer = rw c.in-None.is at c.in_ok-ask_side.ensures.answer in
    let n : c.len.result ≡ length (as_links c.args.self.now.links.items) =
    c.len.ensures ∙ c.args.self.now.links.ok.0 ∙ sym (length_links c.args.self.now.links.items) in
    not_started (as_side c.args.side) c.len.result c.args.self.now
    (record { pair = c.ask_side.new.self; links = c.reserve.new.self }) n answer (ap as_links c.reserve.ensures.items)

pub returns-in-Some-clause-step : goal.returns-in-Some-clause-step
returns-in-Some-clause-step c =
    let answer = rw c.in-Some.is at c.in_ok-ask_side.ensures.answer in
    let n : c.len.result ≡ length (as_links c.args.self.now.links.items) =
    c.len.ensures ∙ c.args.self.now.links.ok.0 ∙ sym (length_links c.args.self.now.links.items) in
    started (as_side c.args.side) c.len.result c.args.self.now
    (record { pair = c.ask_side.new.self; links = c.perform_sends_and_closes.new.links }) c.in-Some.actions n answer
    (start_links (as_side c.args.side) c.in-Some.actions.items c.args.self.now.links.items c.reserve.new.self.items
    c.push_reserved.new.self.items _ c.new.result c.reserve.ensures.items c.push_reserved.ensures.items
    c.new.ensures c.perform_sends_and_closes.ensures)

pub returns-then-not-side_state_takes_event-clause-step : goal.returns-then-not-side_state_takes_event-clause-step
returns-then-not-side_state_takes_event-clause-step c =
    let n : c.len.result ≡ length (as_links c.args.self.now.links.items) =
    c.len.ensures ∙ c.args.self.now.links.ok.0 ∙ sym (length_links c.args.self.now.links.items) in
    not_started (as_side c.args.side) c.len.result c.args.self.now c.args.self.now n
    (c.side_state_takes_event.ensures.refused c.if-not-side_state_takes_event.true) refl
