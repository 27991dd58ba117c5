use Rattle.std.proofs.Common.{◌∙◌, ap, ltb, sym, w8}
use Rattle.std.proofs.lemmas.Simd.{tops_compared}
use Rattle.std.specs.Simd.Lanes.{sel_l}
use Rattle.dm_dict.specs.Lanes.{is_unmarked}
use Rattle.dm_dict.proofs.Lanes.{higher_are_none}
use Rattle.dm_dict.proofs.octet_ranges.higher_mark_in_each_lane.Goals as goal

pub returns : goal.returns
returns c =
    let xs = c.args.marks in
    let ys = c.args.others in
    ap (λ ms. is_unmarked (sel_l ms ys xs)) (tops_compared w8 ltb xs ys)
    ∙ higher_are_none xs ys (c.fits-marks.0 ∙ sym c.fits-others.0)
