-- Which inputs are refused: just a Start outside Closed, and a Stop or Submit outside the open states.
use Rattle.std.specs.Prelude.{◌≡◌, Bool, IsTrue, Option, None, Some}
use Rattle.dm_machine.specs.declared.inputs.Input.{Input}
use Rattle.dm_machine.specs.declared.outputs.Refusal.{Refusal}
use Rattle.dm_machine.specs.Node.{Node, is_shaped}
use Rattle.dm_machine.specs.Moves.{NodeOutcome, NodeMoved, NodeRefused, machine_outcome, node_refusal}

abbrev pub refused_as : NodeOutcome → Option Refusal
refused_as (NodeMoved commands next) = None
refused_as (NodeRefused r) = Some r

abbrev pub RefusesByState : Type 0
RefusesByState =
    (n : Node) (i : Input) (wins : Bool) → IsTrue (is_shaped n) →
    refused_as (machine_outcome n i wins) ≡ node_refusal n.state i
