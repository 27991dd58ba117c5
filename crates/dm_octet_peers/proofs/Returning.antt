-- A peer that wins its elections doesn't come to Wait-Returns.
use Rattle.std.proofs.Common.{◌≡◌, Bool, true, false, not, Option, List, refl, sym, ap, ◌∙◌}
use Rattle.std.specs.Prelude.{◌&&◌}
use Rattle.dm_machine.specs.declared.outputs.Command.{Command}
use Rattle.dm_machine.specs.declared.state_name.State.{State}
use Rattle.dm_machine.specs.Node.{Node}
use Rattle.dm_machine.specs.Moves as moves
use Rattle.dm_machine.specs.Moves.{machine_outcome}
use Rattle.dm_peer.specs.declared.peer.Peer.{Peer}
use Rattle.dm_peer.specs.Events as told
use Rattle.dm_peer.specs.Configs.{wins}
use Rattle.dm_peer.specs.Said.{Heard}
use Rattle.dm_peer.specs.Acts.{input_of}
use Rattle.dm_two_peers.specs.Joining.{is_returning, WinnerDoesNotReturn}
use Rattle.dm_octet_peers.specs.Talking.{returns_as_loser}

-- a peer that wins isn't in Wait-Returns
by_winning : (r b : Bool) → not (r && b) ≡ true → b ≡ true → r ≡ false
by_winning false b h e = refl
by_winning true true h e = cc
by_winning true false h e = cc

pub not_lost : (s : State) (b : Bool) → not (is_returning s && b) ≡ true → b ≡ true → is_returning s ≡ false
not_lost s b h e = by_winning (is_returning s) b h e

unless_winning : (r b : Bool) → (b ≡ true → r ≡ false) → not (r && b) ≡ true
unless_winning false b h = refl
unless_winning true false h = refl
unless_winning true true h = cc (h refl)

-- after a step
pub step_returns : WinnerDoesNotReturn → (p : Peer) (e : told.PeerEvent) (h : Option Heard) (commands : List Command)
    (core : Node) → machine_outcome p.standing.core (input_of e h) (wins p.config) ≡ moves.NodeMoved commands core →
    returns_as_loser p ≡ true → not (is_returning core.state && wins p.config) ≡ true
step_returns law p e h commands core is was =
    unless_winning (is_returning core.state) (wins p.config)
    (λ won. law p.standing.core core (input_of e h) commands
    (not_lost p.standing.core.state (wins p.config) was won)
    (ap (λ b. machine_outcome p.standing.core (input_of e h) b) (sym won) ∙ is))
