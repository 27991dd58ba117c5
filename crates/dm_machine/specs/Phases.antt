-- The code's states, which carry their connections, as nodes.
use Rattle.std.specs.Prelude.{◌≡◌, ℕ, Bool, IsTrue, List, [], ◌∷◌, Some, None, Result, MatchResult, refl}
use Rattle.arrayvec.specs.ArrayVec.{ArrayVec}
use Rattle.dm_machine.specs.declared.connection.Conn.{Conn}
use Rattle.dm_machine.specs.declared.phase.Role.{Role}
use Rattle.dm_machine.specs.declared.phase.Role.TheVariants.{Initiated, Accepted}
use Rattle.dm_machine.specs.declared.phase.Phase.{Phase}
use Rattle.dm_machine.specs.declared.phase.Phase.TheVariants as phase
use Rattle.dm_machine.specs.declared.state_name.State.{State}
use Rattle.dm_machine.specs.declared.state_name.State.TheVariants.{Closed, WaitConnAck, WaitICea, WaitConnAckElect}
use Rattle.dm_machine.specs.declared.state_name.State.TheVariants.{WaitReturns, ROpen, IOpen, Closing}
use Rattle.dm_machine.specs.declared.inputs.Input.{Input}
use Rattle.dm_machine.specs.declared.outputs.Command.{Command}
use Rattle.dm_machine.specs.declared.outputs.Refusal.{Refusal}
use Rattle.dm_machine.specs.Node.{Node, node_at, is_shaped}
use Rattle.dm_machine.specs.Moves.{Moves, MachineRefuses, node_refusal}

abbrev pub open_as : Role → State
open_as Initiated = IOpen
open_as Accepted = ROpen

abbrev pub node_of : Phase → Node
node_of phase.Closed = node_at Closed [] 0
node_of (phase.WaitConnAck i) = node_at WaitConnAck ((Initiated, i) ∷ []) 0
node_of (phase.WaitICea i) = node_at WaitICea ((Initiated, i) ∷ []) 0
node_of (phase.WaitConnAckElect i r) = node_at WaitConnAckElect ((Initiated, i) ∷ (Accepted, r) ∷ []) 0
node_of (phase.WaitReturns i r) = node_at WaitReturns ((Initiated, i) ∷ (Accepted, r) ∷ []) 0
node_of (phase.Open role x n) = node_at (open_as role) ((role, x) ∷ []) n
node_of (phase.Closing role x) = node_at Closing ((role, x) ∷ []) 0

abbrev pub IsShapedPhase : Phase → Type 0
IsShapedPhase p = IsTrue (is_shaped (node_of p))

-- the answer is the one outcome of the input: a state of the right shape, or a refusal by the rule for refusals
abbrev pub PhaseSteps : Phase → Input → Bool → Result (Phase × ArrayVec Command) Refusal → Type 0
PhaseSteps p i wins answer =
    MatchResult answer
    (λ r. Moves (node_of p) i wins r.1.items (node_of r.0) × IsShapedPhase r.0
    × (node_refusal (node_of p).state i ≡ None))
    (λ e. MachineRefuses (node_of p) i wins e × (node_refusal (node_of p).state i ≡ Some e))

-- a node as the code's state
abbrev pub phase_at : State → List (Role × Conn) → ℕ → Phase
phase_at WaitConnAck (i ∷ ps) n = phase.WaitConnAck i.1
phase_at WaitICea (i ∷ ps) n = phase.WaitICea i.1
phase_at WaitConnAckElect (i ∷ r ∷ ps) n = phase.WaitConnAckElect i.1 r.1
phase_at WaitReturns (i ∷ r ∷ ps) n = phase.WaitReturns i.1 r.1
phase_at ROpen (r ∷ ps) n = phase.Open r.0 r.1 n
phase_at IOpen (i ∷ ps) n = phase.Open i.0 i.1 n
phase_at Closing (x ∷ ps) n = phase.Closing x.0 x.1
phase_at _ _ _ = phase.Closed

abbrev pub phase_of : Node → Phase
phase_of n = phase_at n.state n.held n.count

pub phase_of-node_of : (p : Phase) → phase_of (node_of p) ≡ p
phase_of-node_of phase.Closed = refl
phase_of-node_of (phase.WaitConnAck i) = refl
phase_of-node_of (phase.WaitICea i) = refl
phase_of-node_of (phase.WaitConnAckElect i r) = refl
phase_of-node_of (phase.WaitReturns i r) = refl
phase_of-node_of (phase.Open Initiated i n) = refl
phase_of-node_of (phase.Open Accepted r n) = refl
phase_of-node_of (phase.Closing role x) = refl
