use Rattle.std.proofs.Common.{◌≡◌, ◌*◌}
use Rattle.dm_view_lines.specs.OneWord.{low_marks, NoneEnds}
use Rattle.dm_view_lines.proofs.one_word.lowest_run_marks.Given as goal

abbrev pub invariant-runs : goal.invariant-runs
invariant-runs l = low_marks l.lowest ≡ 0 → NoneEnds l.line (16 * l.k)
