use Rattle.std.proofs.Common.{◌≡◌, ◌++◌, take}
use Rattle.std.specs.String.{string_bytes}
use Rattle.dm_live.specs.AnswerLines.{action_lines}
use Rattle.dm_live.proofs.answer_lines.put_action_lines.Given as goal

-- so far these actions are told
abbrev pub invariant-loop-action : goal.invariant-loop-action
invariant-loop-action l =
    string_bytes l.text ≡ string_bytes l.fn.text ++ action_lines (take l.action-index l.actions)
