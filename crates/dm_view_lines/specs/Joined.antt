-- What is said of two inputs, one behind the other.
use Rattle.std.specs.Prelude.{◌≡◌, ℕ, ◌+◌, Bool, List, ◌++◌, length}
use Rattle.std.specs.Str.Lines.{lines}
use Rattle.dm_tables.specs.Definitions.{Definitions}
use Rattle.dm_view_lines.specs.declared.message_reports.Task.{Task}
use Rattle.dm_view_lines.specs.declared.tally.Tally.{Tally}
use Rattle.dm_view_lines.specs.Colours.{styled}
use Rattle.dm_view_lines.specs.Counts.{tallied}
use Rattle.dm_view_lines.specs.Lines.{SaysLines}
use Rattle.dm_view_lines.specs.LineEnds.{HasLineEnds}

-- Where the first one ends with a line's end, what is said of both is what is said of each, numbers going on, in
-- colours too.
abbrev pub JoinedSaid : Type 0
JoinedSaid =
    (coloured : Bool) (task : Task) (d : Definitions) (n : ℕ) (front back first second : List ℕ) (tally others : Tally)
    → HasLineEnds front → SaysLines task d n (lines front) first tally
    → SaysLines task d (n + length (lines front)) (lines back) second others
    → SaysLines task d n (lines (front ++ back)) (first ++ second) (tallied tally others)
    × (styled coloured task (first ++ second) ≡ styled coloured task first ++ styled coloured task second)
