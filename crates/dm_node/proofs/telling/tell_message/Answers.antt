-- Whom the message met, and what was copied for it.
use Rattle.std.proofs.Common.{◌∙◌, ap, sym, subst, inl, inr, refl, length}
use Rattle.std.specs.Prelude.{nat_lt}
use Rattle.dm_node.specs.declared.events.NodeEvent.TheVariants as event
use Rattle.dm_slots.specs.Acquaintances.{known_at}
use Rattle.dm_node.specs.NodeKnown.{known_of, peer_state}
use Rattle.dm_node.specs.NodeStates.{concerned_in}
use Rattle.dm_node.proofs.NodeKnowing.{state_looked, meets, known_moved, room_for, is_copied, open_meets}
use Rattle.dm_node.specs.Owning.{one_held, IsReowned}
use Rattle.dm_node.proofs.Owned.{whose_holder}
use Rattle.dm_node.proofs.Closing.{closes_its_own}
use Rattle.dm_node.proofs.Raised.{message_unclosed, open_as_before}
use Rattle.dm_node.proofs.Reowned.{held_looked, reowned_moved}
use Rattle.dm_node.proofs.telling.tell_message.Goals as goal

-- who holds a connection and is open is told what comes on it
pub tell_neighbour_or_handle_stranger-requires-clause-whose : goal.tell_neighbour_or_handle_stranger-requires-clause-whose
tell_neighbour_or_handle_stranger-requires-clause-whose g c =
    whose_holder (g.S.Strangers.policy c.args.strangers.now) c.args.neighbours.now c.args.conn c.args.octets c.args.holder
    c.neighbours_are_apart_and_sound.ensures.apart c.requires.holder c.in-Some.ensures.state

pub returns-in-Ok-clause-met : goal.returns-in-Ok-clause-met
returns-in-Ok-clause-met g c =
    let policy = g.S.Strangers.policy c.args.strangers.now in
    let ps = c.args.neighbours.now in
    let whose = whose_holder policy ps c.args.conn c.args.octets c.args.holder
    c.neighbours_are_apart_and_sound.ensures.apart c.requires.holder c.in-Some.ensures.state in
    let looked = state_looked policy ps (event.Arrived c.args.conn c.args.octets) c.args.holder _
    c.neighbours_are_apart_and_sound.ensures.apart whose.concerned whose.nobody refl in
    open_meets policy c.args.conn c.args.octets.now c.args.own.now ps c.tell_neighbour_or_handle_stranger.new.neighbours
    c.tell_neighbour_or_handle_stranger.new.answer.neighbour c.tell_neighbour_or_handle_stranger.new.answer.actions.items (known_of c.args.known.now)
    (peer_state (concerned_in ps c.args.holder)) c.requires.places looked c.in-Ok.ensures.told
    c.in-Some.ensures.state

pub returns-in-Ok-clause-places : goal.returns-in-Ok-clause-places
returns-in-Ok-clause-places g c =
    known_moved (λ state q a. known_at c.args.conn state q c.args.octets.now a)
    (g.S.Strangers.policy c.args.strangers.now) c.args.conn c.args.octets.now c.args.own.now c.args.neighbours.now
    c.tell_neighbour_or_handle_stranger.new.neighbours c.tell_neighbour_or_handle_stranger.new.answer.neighbour
    c.tell_neighbour_or_handle_stranger.new.answer.actions.items (known_of c.args.known.now) (known_of c.args.known.now)
    c.requires.places c.in-Ok.ensures.told (returns-in-Ok-clause-met g c)

pub returns-in-Err-clause-memory : goal.returns-in-Err-clause-memory
returns-in-Err-clause-memory g c =
    inl (c.in-Err.ensures.memory c.args.conn c.args.octets.now refl)

pub returns-in-Ok-clause-before : goal.returns-in-Ok-clause-before
returns-in-Ok-clause-before g c =
    let policy = g.S.Strangers.policy c.args.strangers.now in
    let ps = c.args.neighbours.now in
    let whose = whose_holder policy ps c.args.conn c.args.octets c.args.holder
    c.neighbours_are_apart_and_sound.ensures.apart c.requires.holder c.in-Some.ensures.state in
    let looked = held_looked policy ps (event.Arrived c.args.conn c.args.octets) c.args.holder _
    c.neighbours_are_apart_and_sound.ensures.apart whose.concerned whose.nobody c.in-Some.ensures.held in
    subst (IsReowned ps c.tell_neighbour_or_handle_stranger.new.neighbours c.tell_neighbour_or_handle_stranger.new.answer.neighbour)
    (sym c.holding_one.ensures)
    (reowned_moved policy c.args.conn c.args.octets.now c.args.own.now ps
    c.tell_neighbour_or_handle_stranger.new.neighbours c.tell_neighbour_or_handle_stranger.new.answer.neighbour
    c.tell_neighbour_or_handle_stranger.new.answer.actions.items (one_held c.in-Some.on) looked c.in-Ok.ensures.told)

pub returns-in-Ok-tell_neighbour_or_handle_stranger-clause-met : goal.returns-in-Ok-tell_neighbour_or_handle_stranger-clause-met
returns-in-Ok-tell_neighbour_or_handle_stranger-clause-met g c =
    let policy = g.S.Strangers.policy c.args.strangers.now in
    let ps = c.args.neighbours.now in
    let looked = state_looked policy ps (event.Arrived c.args.conn c.args.octets) c.neighbour_for_arrived_octets-who.result _
    c.neighbours_are_apart_and_sound.ensures.apart c.neighbour_for_arrived_octets-who.ensures.found c.neighbour_for_arrived_octets-who.ensures.none
    c.snapshot-before.ensures.state in
    meets policy c.args.conn c.args.octets.now c.args.own.now ps c.tell_neighbour_or_handle_stranger-2.new.neighbours
    c.tell_neighbour_or_handle_stranger-2.new.answer.neighbour c.tell_neighbour_or_handle_stranger-2.new.answer.actions.items (known_of c.args.known.now)
    (known_of c.copy_and_reserve_if_exchange.new.known) (known_of c.meet_or_set_waiting_cer.new.known) c.snapshot-before.result.state c.in-Ok-copy_and_reserve_if_exchange.exchange looked
    c.in-Ok-copy_and_reserve_if_exchange.ensures.copied c.copy_and_reserve_if_exchange.ensures.same c.in-Ok-tell_neighbour_or_handle_stranger.ensures.told c.meet_or_set_waiting_cer.ensures.met
    c.meet_or_set_waiting_cer.ensures.unmet

pub returns-in-Ok-tell_neighbour_or_handle_stranger-clause-places : goal.returns-in-Ok-tell_neighbour_or_handle_stranger-clause-places
returns-in-Ok-tell_neighbour_or_handle_stranger-clause-places g c =
    known_moved (λ state q a. known_at c.args.conn state q c.args.octets.now a)
    (g.S.Strangers.policy c.args.strangers.now) c.args.conn c.args.octets.now c.args.own.now c.args.neighbours.now
    c.tell_neighbour_or_handle_stranger-2.new.neighbours c.tell_neighbour_or_handle_stranger-2.new.answer.neighbour
    c.tell_neighbour_or_handle_stranger-2.new.answer.actions.items (known_of c.args.known.now)
    (known_of c.meet_or_set_waiting_cer.new.known) c.requires.places
    c.in-Ok-tell_neighbour_or_handle_stranger.ensures.told (returns-in-Ok-tell_neighbour_or_handle_stranger-clause-met g c)

pub meet_or_set_waiting_cer-requires : goal.meet_or_set_waiting_cer-requires
meet_or_set_waiting_cer-requires g c = record {
  room = λ i is none.
      let policy = g.S.Strangers.policy c.args.strangers.now in
      let ps = c.args.neighbours.now in
      let looked = state_looked policy ps (event.Arrived c.args.conn c.args.octets) c.neighbour_for_arrived_octets-who.result _
      c.neighbours_are_apart_and_sound.ensures.apart c.neighbour_for_arrived_octets-who.ensures.found c.neighbour_for_arrived_octets-who.ensures.none
      c.snapshot-before.ensures.state in
      c.in-Ok-copy_and_reserve_if_exchange.ensures.room
      (room_for policy c.args.conn c.args.octets.now c.args.own.now ps c.tell_neighbour_or_handle_stranger-2.new.neighbours
      c.tell_neighbour_or_handle_stranger-2.new.answer.neighbour c.tell_neighbour_or_handle_stranger-2.new.answer.actions.items (known_of c.args.known.now)
      c.snapshot-before.result.state i c.requires.places looked c.in-Ok-tell_neighbour_or_handle_stranger.ensures.told is
      (ap (λ l. nat_lt i (length l)) (sym c.copy_and_reserve_if_exchange.ensures.same) ∙ none));
}

pub returns-in-Err-copy_and_reserve_if_exchange-clause-memory : goal.returns-in-Err-copy_and_reserve_if_exchange-clause-memory
returns-in-Err-copy_and_reserve_if_exchange-clause-memory g c =
    let policy = g.S.Strangers.policy c.args.strangers.now in
    let ps = c.args.neighbours.now in
    let looked = state_looked policy ps (event.Arrived c.args.conn c.args.octets) c.neighbour_for_arrived_octets-who.result _
    c.neighbours_are_apart_and_sound.ensures.apart c.neighbour_for_arrived_octets-who.ensures.found c.neighbour_for_arrived_octets-who.ensures.none
    c.snapshot-before.ensures.state in
    inr (is_copied policy c.args.conn c.args.octets.now ps c.snapshot-before.result.state looked c.in-Err-copy_and_reserve_if_exchange.ensures.memory)

pub returns-in-Err-tell_neighbour_or_handle_stranger-clause-memory : goal.returns-in-Err-tell_neighbour_or_handle_stranger-clause-memory
returns-in-Err-tell_neighbour_or_handle_stranger-clause-memory g c =
    inl (c.in-Err-tell_neighbour_or_handle_stranger.ensures.memory c.args.conn c.args.octets.now refl)

pub returns-in-Ok-tell_neighbour_or_handle_stranger-clause-before : goal.returns-in-Ok-tell_neighbour_or_handle_stranger-clause-before
returns-in-Ok-tell_neighbour_or_handle_stranger-clause-before g c =
    let policy = g.S.Strangers.policy c.args.strangers.now in
    let ps = c.args.neighbours.now in
    let looked = held_looked policy ps (event.Arrived c.args.conn c.args.octets) c.neighbour_for_arrived_octets-who.result _
    c.neighbours_are_apart_and_sound.ensures.apart c.neighbour_for_arrived_octets-who.ensures.found c.neighbour_for_arrived_octets-who.ensures.none
    c.snapshot-before.ensures.held in
    reowned_moved policy c.args.conn c.args.octets.now c.args.own.now ps
    c.tell_neighbour_or_handle_stranger-2.new.neighbours c.tell_neighbour_or_handle_stranger-2.new.answer.neighbour
    c.tell_neighbour_or_handle_stranger-2.new.answer.actions.items c.snapshot-before.result.held looked c.in-Ok-tell_neighbour_or_handle_stranger.ensures.told

pub returns-in-Ok-clause-stays : goal.returns-in-Ok-clause-stays
returns-in-Ok-clause-stays g c = λ most f raised is.
    let ps = c.args.neighbours.now in
    let qs = c.tell_neighbour_or_handle_stranger.new.neighbours in
    let answer = c.tell_neighbour_or_handle_stranger.new.answer in
    let own = closes_its_own c.done_events_are_steps_or_drops.ensures
    c.given_up_is_closed_unnamed_stays_unheld.ensures.closed in
    let before = subst (IsReowned ps qs answer.neighbour) c.holding_one.ensures (returns-in-Ok-clause-before g c) in
    open_as_before most f ps qs c.args.holder answer.neighbour c.in-Some.on c.holding_one.result c.holding_one.ensures
    c.in-Some.ensures.state c.in-Some.ensures.held (c.is_open_on.ensures.held is) (c.is_open_on.ensures.raised is)
    answer.actions.items
    (message_unclosed own ps qs answer.actions.items c.in-Some.on answer.neighbour
    c.neighbours_are_apart_and_sound.ensures.kept before (c.is_open_on.ensures.held is) c.in-Ok.ensures.closed
    (g.S.Strangers.policy c.args.strangers.now) c.args.conn c.args.octets.now c.args.own.now c.args.holder
    c.requires.holder c.in-Some.ensures.held c.in-Ok.ensures.told) raised
