-- Each event leaves what a peer waits for to its state.
use Rattle.std.proofs.Common.{◌≡◌, ℕ, Bool, true, false, not, ◌||◌, Option, None, Some, is_some, if◌then◌else◌, refl, sym, subst, ap, ◌∙◌}
use Rattle.std.proofs.lemmas.Bool.{and_parts}
use Rattle.dm_wire.specs.declared.message.Header.{Header}
use Rattle.dm_machine.specs.Moves as moves
use Rattle.dm_machine.specs.Awaiting.{awaits_cea, holds_cer, number_after}
use Rattle.dm_machine.specs.Strangers.{is_good_cer}
use Rattle.dm_machine.specs.EachStep.{EachStepHolds}
use Rattle.dm_machine.specs.Shape.{KeepsShape, EachStepKeepsShape}
use Rattle.dm_peer.specs.declared.peer.Peer.{Peer}
use Rattle.dm_peer.specs.Events.{PeerEvent, Start, Stop, Timeout, Tick, Ack, Nack, Arrived, Gone, Submit}
use Rattle.dm_peer.specs.Configs.{wins}
use Rattle.dm_peer.specs.Said.{Heard, header_heard}
use Rattle.dm_peer.specs.After.{request_in, is_cer}
use Rattle.dm_peer.specs.Acts.{Outcome, turned, input_of, outcome_of, steps, acts}
use Rattle.dm_peer.specs.Settled.{IsSettled, FreshIsSettled, LeavesSettled, EachEventKeepsSettled}
use Rattle.dm_peer.specs.Cases.{Case, step, drop, refusal}
use Rattle.dm_peer.proofs.Cases.{cases}
use Rattle.dm_peer.proofs.Few.{word_of, is_entered, facts}
use Rattle.dm_peer.proofs.Following.{turned_is}

number_kept : (awaits before sends : Bool) (next : ℕ) (old : Option ℕ) →
    is_some old ≡ before → (not awaits || (before || sends)) ≡ true →
    is_some (number_after awaits sends next old) ≡ awaits
number_kept false before sends next old is fine = refl
number_kept true before true next old is fine = refl
number_kept true true false next old is fine = is
number_kept true false false next old is fine = absurd cc

waiting_kept : (after before cer : Bool) (old heard : Option Header) →
    is_some old ≡ before → (cer ≡ true → is_some heard ≡ true) →
    (not after || (before || cer)) ≡ true → is_some (if after then (if before then old else heard) else None) ≡ after
waiting_kept false before cer old heard is some fine = refl
waiting_kept true true cer old heard is some fine = is
waiting_kept true false true old heard is some fine = some refl
waiting_kept true false false old heard is some fine = absurd cc

-- a good CER that is heard has its header
cer_is_heard : (e : PeerEvent) (h : Option Heard) → is_good_cer (word_of (input_of e h)) ≡ true →
    is_some (header_heard h) ≡ true
cer_is_heard (Arrived c s) None is = absurd (cc is)
cer_is_heard (Arrived c s) (Some h) is = refl
cer_is_heard (Start c) h is = absurd (cc is)
cer_is_heard (Stop cause) h is = absurd (cc is)
cer_is_heard Timeout h is = absurd (cc is)
cer_is_heard Tick h is = absurd (cc is)
cer_is_heard (Ack c) h is = absurd (cc is)
cer_is_heard (Nack c) h is = absurd (cc is)
cer_is_heard (Gone c) h is = absurd (cc is)
cer_is_heard (Submit s) h is = absurd (cc is)

by_outcome : (p : Peer) (e : PeerEvent) (h : Option Heard) (o : moves.NodeOutcome) → IsSettled p →
    KeepsShape o → is_entered p.standing.core.state (word_of (input_of e h)) o ≡ true →
    LeavesSettled (outcome_of p e h o)
by_outcome p e h (moves.NodeRefused r) was kept fine = tt
by_outcome p e h (moves.NodeMoved commands core) was kept fine =
    let s = p.standing.core.state in
    let cer = is_good_cer (word_of (input_of e h)) in
    let sent = request_in commands in
    let both = and_parts (not (awaits_cea core.state) || (awaits_cea s || is_cer sent))
    (not (holds_cer core.state) || (holds_cer s || cer)) fine in
    record {
      shaped = kept.0;
      cea =
          number_kept (awaits_cea core.state) (awaits_cea s) (is_cer sent) p.standing.next p.standing.awaited.cea
          was.cea both.0;
      dwa = λ none. rw none refl;
      dpa = λ none. rw none refl;
      waiting =
          waiting_kept (holds_cer core.state) (holds_cer s) cer p.standing.waiting (header_heard h) was.waiting
          (cer_is_heard e h) both.1;
    }

step_settles : EachStepHolds → EachStepKeepsShape →
    (p : Peer) (e : PeerEvent) (h : Option Heard) → IsSettled p → LeavesSettled (steps p e h)
step_settles few shape p e h was =
    let n = p.standing.core in
    let i = input_of e h in
    let w = wins p.config in
    let same = turned_is n i w in
    by_outcome p e h (turned n i w) was
    (subst KeepsShape (sym same) (shape n i w was.shaped))
    (ap (is_entered n.state (word_of i)) same ∙ (facts few n i w was.shaped).entered)

by_case : EachStepHolds → EachStepKeepsShape → (p : Peer) (e : PeerEvent) (o : Outcome) → IsSettled p → Case p e o →
    LeavesSettled o
by_case few shape p e o was (step e' h hears) = step_settles few shape p e' h was
by_case few shape p e o was (drop c s m read is dropped) = was
by_case few shape p e o was (refusal s f is) = tt

pub fresh_is_settled : FreshIsSettled
fresh_is_settled c next = record { shaped = refl; cea = refl; dwa = λ none. refl; dpa = λ none. refl; waiting = refl }

pub each_event_keeps_settled : EachStepHolds → EachStepKeepsShape → EachEventKeepsSettled
each_event_keeps_settled few shape p e was = by_case few shape p e (acts p e) was (cases p e)
