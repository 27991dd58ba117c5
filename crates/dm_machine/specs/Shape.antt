-- Every step keeps the shape of a node.
use Rattle.std.specs.Prelude.{Bool, nat_le, IsTrue, ⊤, length}
use Rattle.dm_machine.specs.declared.inputs.Input.{Input}
use Rattle.dm_machine.specs.Node.{Node, is_shaped}
use Rattle.dm_machine.specs.Moves.{NodeOutcome, NodeMoved, NodeRefused, machine_outcome}

-- the node after the outcome has its shape, and there are at most four commands
abbrev pub KeepsShape : NodeOutcome → Type 0
KeepsShape (NodeMoved commands next) = IsTrue (is_shaped next) × IsTrue (nat_le (length commands) 4)
KeepsShape (NodeRefused r) = ⊤

abbrev pub EachStepKeepsShape : Type 0
EachStepKeepsShape = (n : Node) (i : Input) (wins : Bool) → IsTrue (is_shaped n) → KeepsShape (machine_outcome n i wins)
