use Rattle.std.proofs.Common.{◌≡◌, ◌++◌, ℕ, List, length}
use Rattle.std.specs.Str.Lines.{lines}
use Rattle.dm_text.specs.Lines.{content}
use Rattle.dm_tool.specs.Progress.{BuiltSoFar}
use Rattle.dm_tool.proofs.build.build_text.Given as goal

-- what stands behind the lines so far
abbrev pub invariant-loop-line : goal.invariant-loop-line
invariant-loop-line l =
    (before : List (List ℕ)) × (lines l.input ≡ before ++ lines l.line-iterator) × (l.before ≡ length before)
    × BuiltSoFar (content before) l.building.last l.building.avps.items l.building.text.items l.building.good
