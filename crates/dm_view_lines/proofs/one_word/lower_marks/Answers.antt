use Rattle.std.proofs.Common.{◌∙◌, ltb, ap, sym, w8}
use Rattle.std.proofs.lemmas.Simd.{tops_compared}
use Rattle.std.specs.Simd.Lanes.{sel_l}
use Rattle.dm_view_lines.specs.OneWord.{low_marks}
use Rattle.dm_view_lines.proofs.OneWords.{lower_both}
use Rattle.dm_view_lines.proofs.one_word.lower_marks.Goals as goal

pub returns-clause-first : goal.returns-clause-first
returns-clause-first c =
    let xs = c.args.marks in
    let ys = c.args.others in
    λ none. (lower_both xs ys (c.fits-marks.0 ∙ sym c.fits-others.0)
    (ap (λ ms. low_marks (sel_l ms xs ys)) (sym (tops_compared w8 ltb xs ys)) ∙ none)).0

pub returns-clause-second : goal.returns-clause-second
returns-clause-second c =
    let xs = c.args.marks in
    let ys = c.args.others in
    λ none. (lower_both xs ys (c.fits-marks.0 ∙ sym c.fits-others.0)
    (ap (λ ms. low_marks (sel_l ms xs ys)) (sym (tops_compared w8 ltb xs ys)) ∙ none)).1
