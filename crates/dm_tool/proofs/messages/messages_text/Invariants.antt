use Rattle.std.proofs.Common.{◌++◌, ◌&&◌, ℕ, List, Bool}
use Rattle.dm_text.specs.Lines.{content_lines}
use Rattle.dm_tool.specs.HexLines.{PrintsLines}
use Rattle.dm_tool.specs.Tasks.{answer_of}
use Rattle.dm_tool.proofs.messages.messages_text.Given as goal

-- whatever the lines to come print, behind the text so far it is what all lines print
abbrev pub invariant-loop-line : goal.invariant-loop-line
invariant-loop-line l =
    (more : List ℕ) (fine : Bool) → PrintsLines (answer_of l.fn.task) (content_lines l.line-iterator) more fine
    → PrintsLines (answer_of l.fn.task) (content_lines l.input) (l.text.items ++ more) (l.good && fine)
