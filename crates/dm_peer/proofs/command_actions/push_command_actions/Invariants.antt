-- What was asked for so far, and what the commands from here on ask for.
use Rattle.std.proofs.Common.{◌≡◌, ◌+◌, ◌≤◌, ◌++◌, IsTrue, length}
use Rattle.std.specs.List.{list_any}
use Rattle.dm_peer.specs.Events.{event_told}
use Rattle.dm_peer.specs.Lent.{heard_by}
use Rattle.dm_peer.specs.Sent.{actions_of, takes_memory}
use Rattle.dm_peer.proofs.command_actions.push_command_actions.Given as goal

-- there is room for the rest, and memory that it takes is memory that the whole takes
abbrev pub invariant-loop-left : goal.invariant-loop-left
invariant-loop-left l =
    (length l.actions.items + length l.left ≤ 4)
    × (l.actions.items ++ actions_of l.peer (event_told l.event) (heard_by l.heard) l.left
    ≡ l.fn.actions.items ++ actions_of l.peer (event_told l.event) (heard_by l.heard) l.commands)
    × (IsTrue (list_any takes_memory (actions_of l.peer (event_told l.event) (heard_by l.heard) l.left))
    → IsTrue (list_any takes_memory (actions_of l.peer (event_told l.event) (heard_by l.heard) l.commands)))

abbrev pub decreases-loop-left : goal.decreases-loop-left
decreases-loop-left l = length l.left
