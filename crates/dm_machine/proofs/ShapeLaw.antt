-- Each step keeps the shape of a node: it does as it looks from each connection.
use Rattle.std.proofs.Common.{◌≡◌, ℕ, suc, true, not, ◌&&◌, ◌==◌, nat_le, List, [], ◌∷◌, length, refl, subst, ap, arith}
use Rattle.std.proofs.lemmas.Bool.{and_parts, and_from}
use Rattle.std.proofs.lemmas.Bool.Decides.{nat_tests}
use Rattle.dm_machine.specs.declared.connection.Conn.{Conn}
use Rattle.dm_machine.specs.declared.phase.Role.{Role}
use Rattle.dm_machine.specs.declared.phase.Role.TheVariants.{Initiated, Accepted}
use Rattle.dm_machine.specs.declared.state_name.State.{State}
use Rattle.dm_machine.specs.declared.state_name.State.TheVariants.{WaitConnAck, WaitICea, WaitConnAckElect, WaitReturns, ROpen, IOpen, Closed, Closing}
use Rattle.dm_machine.specs.declared.inputs.Input.{Input}
use Rattle.dm_machine.specs.declared.outputs.Command.{Command}
use Rattle.dm_machine.specs.Node.{Node, is_held_in, is_count_of}
use Rattle.dm_machine.specs.Moves.{NodeOutcome, NodeMoved, NodeRefused, machine_outcome}
use Rattle.dm_machine.specs.Shape.{KeepsShape, EachStepKeepsShape}
use Rattle.dm_machine.proofs.Renamed.{renamed_held, renamed_node, renamed_input, renamed_commands, renamed_outcome}
use Rattle.dm_machine.proofs.Marks.{mark}
use Rattle.dm_machine.proofs.StepFacts.{is_held_seen, is_kept, kept}

as_many : (f : Conn → Conn) (commands : List Command) → length (renamed_commands f commands) ≡ length commands
as_many f [] = refl
as_many f (a ∷ more) = ap (λ (k : ℕ). suc k) (as_many f more)

apart : (i r : Conn) → not (((mark i i).0 == 1) && ((mark i r).0 == 1)) ≡ true → not (i.0 == r.0) ≡ true
apart i r h = grind (arith, nat_tests)

-- seen from each of its connections, a node is of the right shape
held_from_seen : (s : State) (held : List (Role × Conn)) →
    ((c : Conn) → is_held_seen s (renamed_held (mark c) held) ≡ true) → is_held_in s held ≡ true
held_from_seen Closed [] h = refl
held_from_seen WaitConnAck ((Initiated, i) ∷ []) h = refl
held_from_seen WaitICea ((Initiated, i) ∷ []) h = refl
held_from_seen WaitConnAckElect ((Initiated, i) ∷ (Accepted, r) ∷ []) h = apart i r (h i)
held_from_seen WaitReturns ((Initiated, i) ∷ (Accepted, r) ∷ []) h = apart i r (h i)
held_from_seen ROpen ((Accepted, r) ∷ []) h = refl
held_from_seen IOpen ((Initiated, i) ∷ []) h = refl
held_from_seen Closing ((role, x) ∷ []) h = refl
held_from_seen _ _ h = cc (h (record { 0 = 0 }))

from_marked : (o : NodeOutcome) (n : Node) (i : Input) →
    ((c : Conn) → is_kept (renamed_node (mark c) n) (renamed_input (mark c) i) (renamed_outcome (mark c) o) ≡ true) →
    KeepsShape o
from_marked (NodeRefused r) n i h = tt
from_marked (NodeMoved commands next) n i h =
    let held = λ (c : Conn). is_held_seen next.state (renamed_held (mark c) next.held) in
    let counted = is_count_of next.state next.count in
    let few = λ (c : Conn). nat_le (length (renamed_commands (mark c) commands)) 4 in
    let all = λ (c : Conn). and_parts (held c && counted) (few c) (h c) in
    let shaped = λ (c : Conn). and_parts (held c) counted (all c).0 in
    let c0 : Conn = record { 0 = 0 } in
    let F : ℕ → Type 0 = λ k. nat_le k 4 ≡ true in (
      and_from (is_held_in next.state next.held) counted (held_from_seen next.state next.held (λ c. (shaped c).0))
          (shaped c0).1,
      subst F (as_many (mark c0) commands) (all c0).1,
    )

pub each_step : EachStepKeepsShape
each_step n i wins h = from_marked (machine_outcome n i wins) n i (λ c. kept n i wins c h)
