use Rattle.std.proofs.Common.{◌≡◌, ◌++◌, List, None}
use Rattle.std.specs.String.{string_bytes}
use Rattle.dm_node.specs.NodeStates.{NodeTurn}
use Rattle.dm_live.specs.Answers.{turns_lines, whom_last, policy_of, MeetsAlong}
use Rattle.dm_live.specs.Meetings.{meeting_of}
use Rattle.dm_live.proofs.answer.tell_all_that_came.Given as goal

-- so far these turns are told
abbrev pub invariant-turn : goal.invariant-turn
invariant-turn l =
    (turns : List NodeTurn)
    × MeetsAlong (policy_of l.form) l.conn (meeting_of l.fn.node) turns (meeting_of l.node)
    × (l.last ≡ whom_last None turns)
    × (string_bytes l.text ≡ string_bytes l.fn.text ++ turns_lines l.form turns)
