-- Whom the event met, and when memory was wanted for it.
use Rattle.std.proofs.Common.{refl, false, sym, subst}
use Rattle.dm_slots.specs.Acquaintances.{known_after}
use Rattle.dm_node.specs.NodeKnown.{known_of, peer_state}
use Rattle.dm_node.specs.NodeStates.{concerned_in}
use Rattle.dm_node.proofs.NodeKnowing.{state_looked, meets_after, known_told, open_stays_after}
use Rattle.dm_node.proofs.Basics.{no_some, not_done, same_fault}
use Rattle.dm_node.proofs.Ruling.{event_wants, done_goes, failed_goes}
use Rattle.dm_node.specs.Owning.{one_held, IsReowned}
use Rattle.dm_node.proofs.Closing.{closes_its_own}
use Rattle.dm_node.proofs.Raised.{event_unclosed, open_as_before}
use Rattle.dm_node.proofs.Reowned.{held_looked, reowned_told}
use Rattle.dm_node.proofs.telling.tell_event.Goals as goal

pub returns-in-Ok-tell_neighbour_or_handle_stranger-clause-met : goal.returns-in-Ok-tell_neighbour_or_handle_stranger-clause-met
returns-in-Ok-tell_neighbour_or_handle_stranger-clause-met g c =
    let policy = g.S.Strangers.policy c.args.strangers.now in
    let ps = c.args.neighbours.now in
    let before = peer_state (concerned_in ps c.in-Ok.who) in
    let looked = state_looked policy ps c.args.event c.in-Ok.who before
    c.neighbours_are_apart_and_sound.ensures.apart c.in-Ok.ensures.concerned c.in-Ok.ensures.nobody refl in
    meets_after policy c.args.event c.args.own.now ps c.tell_neighbour_or_handle_stranger.new.neighbours
    c.tell_neighbour_or_handle_stranger.new.answer.neighbour c.tell_neighbour_or_handle_stranger.new.answer.actions.items
    (known_of c.args.known.now) (known_of c.args.known.now) before c.requires.calm looked c.requires.places
    c.in-Ok-tell_neighbour_or_handle_stranger.ensures.told
    (λ i q is there. open_stays_after before q i (known_of c.args.known.now) c.in-Some.ensures.state) (λ none. refl)

pub returns-in-Ok-tell_neighbour_or_handle_stranger-clause-places : goal.returns-in-Ok-tell_neighbour_or_handle_stranger-clause-places
returns-in-Ok-tell_neighbour_or_handle_stranger-clause-places g c =
    known_told known_after (g.S.Strangers.policy c.args.strangers.now) c.args.event c.args.own.now
    c.args.neighbours.now c.tell_neighbour_or_handle_stranger.new.neighbours
    c.tell_neighbour_or_handle_stranger.new.answer.neighbour c.tell_neighbour_or_handle_stranger.new.answer.actions.items
    (known_of c.args.known.now) (known_of c.args.known.now) c.requires.calm c.requires.places
    c.in-Ok-tell_neighbour_or_handle_stranger.ensures.told (returns-in-Ok-tell_neighbour_or_handle_stranger-clause-met g c)

pub returns-in-Err-tell_neighbour_or_handle_stranger-clause-wants : goal.returns-in-Err-tell_neighbour_or_handle_stranger-clause-wants
returns-in-Err-tell_neighbour_or_handle_stranger-clause-wants g c = λ is.
    event_wants c.event_refusals_go_by_rule.ensures (g.S.Strangers.policy c.args.strangers.now) c.args.neighbours.now
    c.args.event c.in-Err-tell_neighbour_or_handle_stranger.fault c.neighbours_are_apart_and_sound.ensures.kept c.requires.calm
    (same_fault c.in-Err-tell_neighbour_or_handle_stranger.fault _ _ refl is) c.in-Err-tell_neighbour_or_handle_stranger.ensures.because

pub returns-in-Ok-tell_neighbour_or_handle_stranger-clause-before : goal.returns-in-Ok-tell_neighbour_or_handle_stranger-clause-before
returns-in-Ok-tell_neighbour_or_handle_stranger-clause-before g c =
    let policy = g.S.Strangers.policy c.args.strangers.now in
    let ps = c.args.neighbours.now in
    let looked = held_looked policy ps c.args.event c.in-Ok.who _
    c.neighbours_are_apart_and_sound.ensures.apart c.in-Ok.ensures.concerned c.in-Ok.ensures.nobody
    c.in-Some.ensures.held in
    subst (IsReowned ps c.tell_neighbour_or_handle_stranger.new.neighbours c.tell_neighbour_or_handle_stranger.new.answer.neighbour)
    (sym c.holding_one.ensures)
    (reowned_told policy c.args.event c.args.own.now ps c.tell_neighbour_or_handle_stranger.new.neighbours
    c.tell_neighbour_or_handle_stranger.new.answer.neighbour c.tell_neighbour_or_handle_stranger.new.answer.actions.items (one_held c.in-Some.on)
    c.requires.calm looked c.in-Ok-tell_neighbour_or_handle_stranger.ensures.told)

pub returns-in-Ok-tell_neighbour_or_handle_stranger-clause-rules : goal.returns-in-Ok-tell_neighbour_or_handle_stranger-clause-rules
returns-in-Ok-tell_neighbour_or_handle_stranger-clause-rules g c =
    done_goes (g.S.Strangers.policy c.args.strangers.now) c.args.neighbours.now c.args.event
    (record { before = c.holding_one.result; is_open_as_before = c.is_open_on.result }) _ c.tell_neighbour_or_handle_stranger.result
    c.in-Ok-tell_neighbour_or_handle_stranger.is
    (λ f wrong. not_done c.in-Ok.who f c.concerned_neighbour.result c.in-Ok.is (c.concerned_neighbour.ensures.misdirected f wrong))
    c.tell_neighbour_or_handle_stranger.ensures.rules

pub returns-in-Err-tell_neighbour_or_handle_stranger-clause-rules : goal.returns-in-Err-tell_neighbour_or_handle_stranger-clause-rules
returns-in-Err-tell_neighbour_or_handle_stranger-clause-rules g c =
    failed_goes _ (g.S.Strangers.policy c.args.strangers.now) c.args.neighbours.now c.args.event
    c.in-Err-tell_neighbour_or_handle_stranger.fault c.tell_neighbour_or_handle_stranger.result c.in-Err-tell_neighbour_or_handle_stranger.is
    (λ f wrong. not_done c.in-Ok.who f c.concerned_neighbour.result c.in-Ok.is (c.concerned_neighbour.ensures.misdirected f wrong))
    c.tell_neighbour_or_handle_stranger.ensures.rules

pub returns-in-Ok-tell_neighbour_or_handle_stranger-2-clause-met : goal.returns-in-Ok-tell_neighbour_or_handle_stranger-2-clause-met
returns-in-Ok-tell_neighbour_or_handle_stranger-2-clause-met g c =
    let policy = g.S.Strangers.policy c.args.strangers.now in
    let ps = c.args.neighbours.now in
    let looked = state_looked policy ps c.args.event c.in-Ok.who _
    c.neighbours_are_apart_and_sound.ensures.apart c.in-Ok.ensures.concerned c.in-Ok.ensures.nobody
    c.snapshot-before.ensures.state in
    meets_after policy c.args.event c.args.own.now ps c.tell_neighbour_or_handle_stranger-2.new.neighbours
    c.tell_neighbour_or_handle_stranger-2.new.answer.neighbour c.tell_neighbour_or_handle_stranger-2.new.answer.actions.items (known_of c.args.known.now)
    (known_of c.meet_if_opened_by_event.new.known) c.snapshot-before.result.state c.requires.calm looked c.requires.places
    c.in-Ok-tell_neighbour_or_handle_stranger-2.ensures.told c.meet_if_opened_by_event.ensures.met c.meet_if_opened_by_event.ensures.unmet

pub returns-in-Ok-tell_neighbour_or_handle_stranger-2-clause-places : goal.returns-in-Ok-tell_neighbour_or_handle_stranger-2-clause-places
returns-in-Ok-tell_neighbour_or_handle_stranger-2-clause-places g c =
    known_told known_after (g.S.Strangers.policy c.args.strangers.now) c.args.event c.args.own.now
    c.args.neighbours.now c.tell_neighbour_or_handle_stranger-2.new.neighbours
    c.tell_neighbour_or_handle_stranger-2.new.answer.neighbour c.tell_neighbour_or_handle_stranger-2.new.answer.actions.items
    (known_of c.args.known.now) (known_of c.meet_if_opened_by_event.new.known) c.requires.calm c.requires.places
    c.in-Ok-tell_neighbour_or_handle_stranger-2.ensures.told (returns-in-Ok-tell_neighbour_or_handle_stranger-2-clause-met g c)

pub returns-in-Err-tell_neighbour_or_handle_stranger-2-clause-wants : goal.returns-in-Err-tell_neighbour_or_handle_stranger-2-clause-wants
returns-in-Err-tell_neighbour_or_handle_stranger-2-clause-wants g c = λ is.
    event_wants c.event_refusals_go_by_rule.ensures (g.S.Strangers.policy c.args.strangers.now) c.args.neighbours.now
    c.args.event c.in-Err-tell_neighbour_or_handle_stranger-2.fault c.neighbours_are_apart_and_sound.ensures.kept c.requires.calm
    (same_fault c.in-Err-tell_neighbour_or_handle_stranger-2.fault _ _ refl is) c.in-Err-tell_neighbour_or_handle_stranger-2.ensures.because

pub returns-in-Ok-tell_neighbour_or_handle_stranger-2-clause-before : goal.returns-in-Ok-tell_neighbour_or_handle_stranger-2-clause-before
returns-in-Ok-tell_neighbour_or_handle_stranger-2-clause-before g c =
    let policy = g.S.Strangers.policy c.args.strangers.now in
    let ps = c.args.neighbours.now in
    let looked = held_looked policy ps c.args.event c.in-Ok.who _
    c.neighbours_are_apart_and_sound.ensures.apart c.in-Ok.ensures.concerned c.in-Ok.ensures.nobody
    c.snapshot-before.ensures.held in
    reowned_told policy c.args.event c.args.own.now ps c.tell_neighbour_or_handle_stranger-2.new.neighbours
    c.tell_neighbour_or_handle_stranger-2.new.answer.neighbour c.tell_neighbour_or_handle_stranger-2.new.answer.actions.items c.snapshot-before.result.held
    c.requires.calm looked c.in-Ok-tell_neighbour_or_handle_stranger-2.ensures.told

pub returns-in-Ok-tell_neighbour_or_handle_stranger-2-clause-rules : goal.returns-in-Ok-tell_neighbour_or_handle_stranger-2-clause-rules
returns-in-Ok-tell_neighbour_or_handle_stranger-2-clause-rules g c =
    done_goes (g.S.Strangers.policy c.args.strangers.now) c.args.neighbours.now c.args.event
    (record { before = c.snapshot-before.result.held; is_open_as_before = false }) _ c.tell_neighbour_or_handle_stranger-2.result c.in-Ok-tell_neighbour_or_handle_stranger-2.is
    (λ f wrong. not_done c.in-Ok.who f c.concerned_neighbour.result c.in-Ok.is (c.concerned_neighbour.ensures.misdirected f wrong))
    c.tell_neighbour_or_handle_stranger-2.ensures.rules

pub returns-in-Err-tell_neighbour_or_handle_stranger-2-clause-rules : goal.returns-in-Err-tell_neighbour_or_handle_stranger-2-clause-rules
returns-in-Err-tell_neighbour_or_handle_stranger-2-clause-rules g c =
    failed_goes _ (g.S.Strangers.policy c.args.strangers.now) c.args.neighbours.now c.args.event
    c.in-Err-tell_neighbour_or_handle_stranger-2.fault c.tell_neighbour_or_handle_stranger-2.result c.in-Err-tell_neighbour_or_handle_stranger-2.is
    (λ f wrong. not_done c.in-Ok.who f c.concerned_neighbour.result c.in-Ok.is (c.concerned_neighbour.ensures.misdirected f wrong))
    c.tell_neighbour_or_handle_stranger-2.ensures.rules

pub returns-in-Ok-tell_neighbour_or_handle_stranger-clause-stays : goal.returns-in-Ok-tell_neighbour_or_handle_stranger-clause-stays
returns-in-Ok-tell_neighbour_or_handle_stranger-clause-stays g c = λ most f raised is.
    let ps = c.args.neighbours.now in
    let qs = c.tell_neighbour_or_handle_stranger.new.neighbours in
    let answer = c.tell_neighbour_or_handle_stranger.new.answer in
    let own = closes_its_own c.done_events_are_steps_or_drops.ensures
    c.given_up_is_closed_unnamed_stays_unheld.ensures.closed in
    let before = subst (IsReowned ps qs answer.neighbour) c.holding_one.ensures (returns-in-Ok-tell_neighbour_or_handle_stranger-clause-before g c) in
    open_as_before most f ps qs c.in-Ok.who answer.neighbour c.in-Some.on c.holding_one.result c.holding_one.ensures
    c.in-Some.ensures.state c.in-Some.ensures.held (c.is_open_on.ensures.held is) (c.is_open_on.ensures.raised is)
    answer.actions.items
    (event_unclosed own ps qs answer.actions.items c.in-Some.on answer.neighbour
    c.neighbours_are_apart_and_sound.ensures.kept before (c.is_open_on.ensures.held is)
    c.in-Ok-tell_neighbour_or_handle_stranger.ensures.closed (g.S.Strangers.policy c.args.strangers.now)
    c.args.event c.args.own.now c.requires.calm
    (λ d octets came. no_some _ (sym (c.in-Some.ensures.arrival d octets came)))
    c.in-Ok-tell_neighbour_or_handle_stranger.ensures.told) raised
