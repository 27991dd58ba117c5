use Rattle.std.proofs.Common.{◌≡◌, ◌*◌, ◌+◌, subst, arith}
use Rattle.dm_view_lines.specs.OneWord.{NoneEnds}
use Rattle.dm_view_lines.proofs.OneWords.{none_in_run}
use Rattle.dm_view_lines.proofs.one_word.lowest_run_marks.Goals as goal

pub runs-init : goal.runs-init
runs-init c = λ none k below. absurd (omega (arith, below))

pub runs-preserved : goal.runs-preserved
runs-preserved c =
    let line = c.args.line.now in
    let k = c.runs.k in
    let next : 16 * k + 16 ≡ 16 * (k + 1) = omega arith in
    λ none.
    subst (NoneEnds line) next (none_in_run line c.word_end_marks-marks.result (16 * k) (16 * k) (omega arith)
    (omega arith)
    c.word_end_marks-marks.ensures (c.lower_marks-lowest.ensures.second none)
    (c.runs.invariant (c.lower_marks-lowest.ensures.first none)))
