use Rattle.std.proofs.Common.{◌≡◌, ◌≤◌, ◌+◌, ◌++◌, ℕ, List, length}
use Rattle.std.specs.Str.Lines.{lines}
use Rattle.std.specs.String.{string_bytes}
use Rattle.dm_view_lines.specs.declared.tally.Tally.{Tally}
use Rattle.dm_view_lines.specs.Counts.{tallied}
use Rattle.dm_view_lines.specs.Lines.{SaysLines}
use Rattle.dm_view_lines.proofs.line_reports.put_report_of_all_lines.Given as goal

-- Of the lines before, which were counted, this is said; whatever is said of those to come, behind it it is what is
-- said of all.
abbrev pub invariant-loop-line : goal.invariant-loop-line
invariant-loop-line l =
    (before : List (List ℕ)) × (lines l.input ≡ before ++ lines l.line-iterator) × (l.number ≡ length before)
    × (l.tally.good + l.tally.bad ≤ l.number)
    × (so : List ℕ) × (string_bytes l.text ≡ string_bytes l.fn.text ++ so)
    × ((more : List ℕ) (others : Tally)
    → SaysLines l.fn.task l.dictionary (l.number + 1) (lines l.line-iterator) more others
    → SaysLines l.fn.task l.dictionary 1 (lines l.input) (so ++ more) (tallied l.tally others))
