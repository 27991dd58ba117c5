-- No event but an arrival hands anything up.
use Rattle.std.proofs.Common.{◌≡◌, Bool, true, false, not, Option, List, [], ◌∷◌, refl, sym, ap, subst}
use Rattle.std.specs.Prelude.{⊤}
use Rattle.dm_machine.specs.declared.inputs.Input.{Input}
use Rattle.dm_machine.specs.declared.inputs.Input.TheVariants as input
use Rattle.dm_machine.specs.declared.outputs.Command.{Command}
use Rattle.dm_machine.specs.declared.outputs.Command.TheVariants as command
use Rattle.dm_machine.specs.Node.{is_shaped}
use Rattle.dm_machine.specs.Upward.{has_up, HandsUpWhereOpen}
use Rattle.dm_machine.specs.Moves as moves
use Rattle.dm_peer.specs.declared.peer.Peer.{Peer}
use Rattle.dm_peer.specs.Events as told
use Rattle.dm_peer.specs.Configs.{wins}
use Rattle.dm_peer.specs.Said.{Heard}
use Rattle.dm_peer.specs.Sent.{actions_of}
use Rattle.dm_peer.specs.Acts.{Outcome, Moved, Refused, turned, input_of, outcome_of, steps, acts}
use Rattle.dm_two_peers.specs.Delivery.{ups_of}
use Rattle.dm_octet_peers.specs.Octets.{as_actions}
use Rattle.dm_octet_peers.proofs.Replying.{turned_is}
use Rattle.dm_octet_peers.proofs.Silent.{is_silent, silent_step}
use Rattle.dm_octet_peers.proofs.Walking.{walked}

pub ups_none : (p : Peer) (e : told.PeerEvent) (h : Option Heard) (commands : List Command) →
    has_up commands ≡ false → ups_of (as_actions (actions_of p e h commands)) ≡ []
ups_none p e h [] none = refl
ups_none p e h (command.Up ∷ more) none = cc
ups_none p e h (_ ∷ more) none = ups_none p e h more none

pub not_up : (b : Bool) → not b ≡ true → b ≡ false
not_up true h = cc
not_up false h = refl

abbrev pub RaisesNone : Outcome → Type 0
RaisesNone (Moved actions next) = ups_of (as_actions actions) ≡ []
RaisesNone (Refused f) = ⊤

abbrev pub is_arrival : told.PeerEvent → Bool
is_arrival (told.Arrived c s) = true
is_arrival _ = false

abbrev is_heard_input : Input → Bool
is_heard_input (input.Heard c w) = true
is_heard_input _ = false

no_word : (e : told.PeerEvent) (h : Option Heard) → is_arrival e ≡ false → is_heard_input (input_of e h) ≡ false
no_word (told.Arrived c s) h other = cc
no_word _ h other = refl

step_raises : HandsUpWhereOpen → (p : Peer) (e : told.PeerEvent) (h : Option Heard) →
    is_shaped p.standing.core ≡ true → is_heard_input (input_of e h) ≡ false → RaisesNone (steps p e h)
step_raises ups p e h shaped calm =
    let n = p.standing.core in
    let i = input_of e h in
    by_outcome (turned n i (wins p.config))
    (subst (λ o. is_silent o ≡ true) (sym (turned_is n i (wins p.config)))
    (silent_step ups n shaped i (wins p.config) (λ here. let heard = ap is_heard_input here.heard in cc)))
  where
    by_outcome : (o : moves.NodeOutcome) → is_silent o ≡ true → RaisesNone (outcome_of p e h o)
    by_outcome (moves.NodeMoved commands core) silent = ups_none p e h commands (not_up (has_up commands) silent)
    by_outcome (moves.NodeRefused r) silent = tt

pub acts_raise_none : HandsUpWhereOpen → (p : Peer) (e : told.PeerEvent) → is_shaped p.standing.core ≡ true →
    is_arrival e ≡ false → RaisesNone (acts p e)
acts_raise_none ups p e shaped calm =
    walked p RaisesNone refl e (λ is f. tt) (λ h may. step_raises ups p e h shaped (no_word e h calm))
