-- What each event keeps of a peer over octets: it stands, and only a loser waits for the end of its connection.
use Rattle.std.proofs.Common.{◌≡◌, true, Option, refl, sym, subst}
use Rattle.std.specs.Prelude.{⊤}
use Rattle.dm_machine.specs.Shape.{KeepsShape, EachStepKeepsShape}
use Rattle.dm_machine.specs.Moves as moves
use Rattle.dm_machine.specs.Moves.{machine_outcome}
use Rattle.dm_peer.specs.declared.peer.Peer.{Peer}
use Rattle.dm_peer.specs.Events as told
use Rattle.dm_peer.specs.Configs.{wins}
use Rattle.dm_peer.specs.Said.{Heard}
use Rattle.dm_peer.specs.Acts.{Outcome, Moved, Refused, turned, input_of, outcome_of, steps, acts}
use Rattle.dm_two_peers.specs.Joining.{WinnerDoesNotReturn}
use Rattle.dm_octet_peers.specs.Talking.{is_standing, returns_as_loser}
use Rattle.dm_octet_peers.proofs.Returning.{step_returns}
use Rattle.dm_octet_peers.proofs.Replying.{stands_after, turned_is, shaped_of}
use Rattle.dm_octet_peers.proofs.Walking.{walked}

-- what is taken of the state machine
pub record MachineLaws : Type 0 where
  pub shape : EachStepKeepsShape
  pub winner : WinnerDoesNotReturn

-- what each event keeps of a peer
abbrev pub IsKept : Peer → Type 0
IsKept p = (is_standing p ≡ true) × (returns_as_loser p ≡ true)

-- a peer after its outcome: configured as before, and kept
abbrev pub KeepsPeer : Peer → Outcome → Type 0
KeepsPeer p (Moved actions next) = (next.config ≡ p.config) × IsKept next
KeepsPeer p (Refused f) = ⊤

by_outcome : WinnerDoesNotReturn → (p : Peer) (e : told.PeerEvent) (h : Option Heard) (o : moves.NodeOutcome) →
    machine_outcome p.standing.core (input_of e h) (wins p.config) ≡ o → IsKept p → KeepsShape o →
    KeepsPeer p (outcome_of p e h o)
by_outcome law p e h (moves.NodeRefused r) is was kept = tt
by_outcome law p e h (moves.NodeMoved commands core) is was kept =
    (refl, (stands_after p h commands core was.0 kept.0, step_returns law p e h commands core is was.1))

step_keeps : MachineLaws → (p : Peer) (e : told.PeerEvent) (h : Option Heard) → IsKept p → KeepsPeer p (steps p e h)
step_keeps machine p e h was =
    let n = p.standing.core in
    let i = input_of e h in
    let w = wins p.config in
    by_outcome machine.winner p e h (turned n i w) (sym (turned_is n i w)) was
    (subst KeepsShape (sym (turned_is n i w)) (machine.shape n i w (shaped_of p was.0)))

pub acts_keep : MachineLaws → (p : Peer) (e : told.PeerEvent) → IsKept p → KeepsPeer p (acts p e)
acts_keep machine p e was =
    walked p (KeepsPeer p) (refl, was) e (λ is f. tt) (λ h may. step_keeps machine p e h was)
