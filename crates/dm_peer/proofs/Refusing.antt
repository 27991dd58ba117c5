-- The outcome is a refusal just by the rules: the state and the event decide.
use Rattle.std.proofs.Common.{◌≡◌, ℕ, true, Option, None, Some, List, IsTrue, refl, sym, ap, ◌∙◌}
use Rattle.std.specs.Prelude.{option_map}
use Rattle.dm_machine.specs.declared.state_name.State.{State}
use Rattle.dm_machine.specs.declared.state_name.State.TheVariants.{Closed, ROpen, IOpen}
use Rattle.dm_machine.specs.declared.connection.Conn.{Conn}
use Rattle.dm_machine.specs.declared.inputs.Input.TheVariants as input
use Rattle.dm_machine.specs.Node.{is_shaped}
use Rattle.dm_machine.specs.Moves.{is_open}
use Rattle.dm_machine.specs.Moves as moves
use Rattle.dm_machine.specs.Refusals.{refused_as, RefusesByState}
use Rattle.dm_peer.specs.declared.peer.Peer.{Peer}
use Rattle.dm_peer.specs.Faults.{fault_of}
use Rattle.dm_peer.specs.Events.{PeerEvent, Start, Stop, Timeout, Tick, Ack, Nack, Arrived, Gone, Submit}
use Rattle.dm_peer.specs.Configs.{wins}
use Rattle.dm_peer.specs.Said.{Heard, heard_in}
use Rattle.dm_peer.specs.Acts.{Outcome, turned, input_of, outcome_of, steps, acts}
use Rattle.dm_peer.specs.Refusing.{refusal_of, fault_at, RefusesByRule}
use Rattle.dm_peer.specs.Cases.{is_bare, Hears, unread, no_message, message, submits_it, bare, Case, step, drop, refusal}
use Rattle.dm_peer.proofs.Cases.{cases}
use Rattle.dm_peer.proofs.Following.{turned_is}

-- a step is refused by the state machine's rule
by_outcome : (p : Peer) (e : PeerEvent) (h : Option Heard) (o : moves.NodeOutcome) →
    fault_at (outcome_of p e h o) ≡ option_map fault_of (refused_as o)
by_outcome p e h (moves.NodeMoved commands core) = refl
by_outcome p e h (moves.NodeRefused r) = refl

step_refuses : RefusesByState →
    (p : Peer) (e : PeerEvent) (h : Option Heard) → IsTrue (is_shaped p.standing.core) →
    fault_at (steps p e h) ≡ option_map fault_of (moves.node_refusal p.standing.core.state (input_of e h))
step_refuses law p e h shaped =
    let n = p.standing.core in
    let i = input_of e h in
    let w = wins p.config in
    by_outcome p e h (turned n i w) ∙
    ap (λ o. option_map fault_of (refused_as o)) (turned_is n i w) ∙
    ap (option_map fault_of) (law n i w shaped)

-- which is the peer's
at_arrival : (s : State) (c : Conn) (octets : List ℕ) (h : Option Heard) →
    moves.node_refusal s (input_of (Arrived c octets) h) ≡ None
at_arrival Closed c octets h = refl
at_arrival _ c octets h = refl

at_submit : (s : State) → is_open s ≡ true → moves.node_refusal s input.Submit ≡ None
at_submit ROpen is = refl
at_submit IOpen is = refl
at_submit _ is = cc

at_bare : (s : State) (e : PeerEvent) → is_bare e ≡ true →
    option_map fault_of (moves.node_refusal s (input_of e None)) ≡ refusal_of s e
at_bare Closed (Start c) is = refl
at_bare _ (Start c) is = refl
at_bare ROpen (Stop cause) is = refl
at_bare IOpen (Stop cause) is = refl
at_bare _ (Stop cause) is = refl
at_bare Closed Timeout is = refl
at_bare _ Timeout is = refl
at_bare Closed Tick is = refl
at_bare _ Tick is = refl
at_bare Closed (Ack c) is = refl
at_bare _ (Ack c) is = refl
at_bare Closed (Nack c) is = refl
at_bare _ (Nack c) is = refl
at_bare Closed (Gone c) is = refl
at_bare _ (Gone c) is = refl
at_bare s (Arrived c octets) is = absurd (cc is)
at_bare s (Submit octets) is = absurd (cc is)

rule : (p : Peer) (e : PeerEvent) (h : Option Heard) → Hears p e h →
    option_map fault_of (moves.node_refusal p.standing.core.state (input_of e h)) ≡ refusal_of p.standing.core.state e
rule p e h (unread c s deaf) = ap (option_map fault_of) (at_arrival p.standing.core.state c s None)
rule p e h (no_message c s read none) = ap (option_map fault_of) (at_arrival p.standing.core.state c s None)
rule p e h (message c s m read is kept) =
    ap (option_map fault_of) (at_arrival p.standing.core.state c s (Some (heard_in p.config m)))
rule p e h (submits_it s opened can) =
    ap (option_map fault_of) (at_submit p.standing.core.state opened) ∙ rw (opened, can) refl
rule p e h (bare e' is) = at_bare p.standing.core.state e' is

by_case : RefusesByState → (p : Peer) (e : PeerEvent) (o : Outcome) → IsTrue (is_shaped p.standing.core) →
    Case p e o → fault_at o ≡ refusal_of p.standing.core.state e
by_case law p e o shaped (step e' h hears) = step_refuses law p e' h shaped ∙ rule p e' h hears
by_case law p e o shaped (drop c s m read is dropped) = refl
by_case law p e o shaped (refusal s f is) = sym is

pub refuses_by_rule : RefusesByState → RefusesByRule
refuses_by_rule law p e shaped = by_case law p e (acts p e) shaped (cases p e)
