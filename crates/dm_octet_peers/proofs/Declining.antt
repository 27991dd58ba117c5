-- A peer over octets declines only what the machine refuses, and Submits.
use Rattle.std.proofs.Common.{◌≡◌, ℕ, true, Option, List, refl, sym, ap, ◌∙◌}
use Rattle.std.specs.Prelude.{⊤}
use Rattle.dm_machine.specs.Moves as moves
use Rattle.dm_machine.specs.Moves.{machine_outcome}
use Rattle.dm_peer.specs.declared.fault.PeerFault.{PeerFault}
use Rattle.dm_peer.specs.declared.peer.Peer.{Peer}
use Rattle.dm_peer.specs.Configs.{wins}
use Rattle.dm_peer.specs.Said.{Heard, word_heard}
use Rattle.dm_peer.specs.Acts.{Outcome, Moved, Refused, turned, input_of, outcome_of, steps, acts}
use Rattle.dm_two_peers.specs.Peers.{Event, StartEvent, SubmitEvent}
use Rattle.dm_two_peers.specs.Follows.{input_told, IsRefusedByMachine, MayDecline}
use Rattle.dm_octet_peers.specs.Octets.{of_event, octet_peers}
use Rattle.dm_octet_peers.proofs.Replying.{turned_is}
use Rattle.dm_octet_peers.proofs.Walking.{is_submit_event, walked}

pub same_input : (e : Event (List ℕ)) (h : Option Heard) → input_of (of_event e) h ≡ input_told e (word_heard h)
same_input (StartEvent d) h = refl
same_input _ h = refl

abbrev pub Declined : Peer → Event (List ℕ) → Outcome → Type 0
Declined p e (Moved actions next) = ⊤
Declined p e (Refused fault) = MayDecline octet_peers p e

abbrev Refusing : Peer → Event (List ℕ) → Type 0
Refusing p e = IsRefusedByMachine octet_peers p e → MayDecline octet_peers p e

by_outcome : (p : Peer) (e : Event (List ℕ)) (h : Option Heard) (o : moves.NodeOutcome) → Refusing p e →
    machine_outcome p.standing.core (input_told e (word_heard h)) (wins p.config) ≡ o →
    Declined p e (outcome_of p (of_event e) h o)
by_outcome p e h (moves.NodeMoved commands core) may is = tt
by_outcome p e h (moves.NodeRefused r) may is =
    may (record { word = word_heard h; wins = wins p.config; refusal = r; refuses = is })

by_steps : (p : Peer) (e : Event (List ℕ)) (h : Option Heard) → Refusing p e → Declined p e (steps p (of_event e) h)
by_steps p e h may =
    let n = p.standing.core in
    let w = wins p.config in
    by_outcome p e h (turned n (input_of (of_event e) h) w) may
    (ap (λ i. machine_outcome n i w) (sym (same_input e h)) ∙ sym (turned_is n (input_of (of_event e) h) w))

may_decline : (p : Peer) (e : Event (List ℕ)) → Refusing p e
may_decline p (SubmitEvent s) refused = tt
may_decline p _ refused = refused

refused_submit : (p : Peer) (e : Event (List ℕ)) → is_submit_event (of_event e) ≡ true → (f : PeerFault) →
    Declined p e (Refused f)
refused_submit p (SubmitEvent s) is f = tt
refused_submit p _ is f = cc

pub octets_decline : (p : Peer) (e : Event (List ℕ)) → Declined p e (acts p (of_event e))
octets_decline p e =
    walked p (Declined p e) tt (of_event e) (refused_submit p e) (λ h may. by_steps p e h (may_decline p e))
