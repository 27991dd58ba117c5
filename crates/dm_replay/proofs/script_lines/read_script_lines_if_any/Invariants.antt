use Rattle.std.proofs.Common.{◌≡◌, ◌++◌, ℕ, List, length}
use Rattle.std.specs.Str.Lines.{lines}
use Rattle.dm_text.specs.Lines.{content}
use Rattle.dm_replay.specs.LinesSoFar.{TellSoFar}
use Rattle.dm_replay.proofs.script_lines.read_script_lines_if_any.Given as goal

-- what stands behind the lines so far
abbrev pub invariant-loop-line : goal.invariant-loop-line
invariant-loop-line l =
    (before : List (List ℕ)) × (lines l.text ≡ before ++ lines l.line-iterator) × (l.count ≡ length before)
    × TellSoFar (content before) l.so_far.hosts l.so_far.list.items
