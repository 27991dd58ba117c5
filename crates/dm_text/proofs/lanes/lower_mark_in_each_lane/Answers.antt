use Rattle.std.proofs.Common.{◌∙◌, ltb, ap, sym, w8}
use Rattle.std.proofs.lemmas.Simd.{tops_compared}
use Rattle.std.specs.Simd.Lanes.{sel_l}
use Rattle.dm_text.specs.SideBySide.{bad_marks}
use Rattle.dm_text.proofs.Marks.{lower_both, lower_each}
use Rattle.dm_text.proofs.lanes.lower_mark_in_each_lane.Goals as goal

pub returns-clause-both : goal.returns-clause-both
returns-clause-both c =
    let xs = c.args.marks in
    let ys = c.args.others in
    λ none. lower_both xs ys (c.fits-marks.0 ∙ sym c.fits-others.0)
    (ap (λ ms. bad_marks (sel_l ms xs ys)) (sym (tops_compared w8 ltb xs ys)) ∙ none)

pub returns-clause-each : goal.returns-clause-each
returns-clause-each c =
    let xs = c.args.marks in
    let ys = c.args.others in
    λ left right. ap (λ ms. bad_marks (sel_l ms xs ys)) (tops_compared w8 ltb xs ys)
    ∙ lower_each xs ys (c.fits-marks.0 ∙ sym c.fits-others.0) left right
