-- The states that can hold an election (RFC 6733, 5.6.4): elsewhere it makes no difference who would win one.
use Rattle.std.specs.Prelude.{◌≡◌, Bool, true, false, ◌&&◌, IsTrue}
use Rattle.dm_machine.specs.declared.state_name.State.{State}
use Rattle.dm_machine.specs.declared.state_name.State.TheVariants.{WaitICea, WaitConnAckElect}
use Rattle.dm_machine.specs.declared.inputs.Input.{Input}
use Rattle.dm_machine.specs.Node.{Node, is_shaped}
use Rattle.dm_machine.specs.Moves.{machine_outcome}

-- those where the other side's CER meets the own one: the one that comes, or the one that is sent
abbrev pub holds_elections : State → Bool
holds_elections WaitICea = true
holds_elections WaitConnAckElect = true
holds_elections _ = false

abbrev pub WinnerCountsInElections : Type 0
WinnerCountsInElections =
    (n : Node) (i : Input) (wins : Bool) → IsTrue (is_shaped n) →
    machine_outcome n i (holds_elections n.state && wins) ≡ machine_outcome n i wins
