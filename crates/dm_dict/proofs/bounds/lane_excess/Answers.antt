use Rattle.std.proofs.Common.{◌∙◌, ap, ltb, sym, w16}
use Rattle.std.proofs.lemmas.Simd.{tops_compared}
use Rattle.std.specs.Simd.Lanes.{sel_l, zip2}
use Rattle.dm_dict.specs.Lanes.{is_unmarked}
use Rattle.dm_dict.proofs.Sixteens.{less, past_none}
use Rattle.dm_dict.proofs.bounds.lane_excess.Goals as goal

pub returns : goal.returns
returns c = λ none.
    let xs = c.args.lanes in
    let ys = c.args.others in
    past_none xs ys (c.fits-lanes.0 ∙ sym c.fits-others.0) c.fits-lanes.1 c.fits-others.1
    (ap (λ ms. is_unmarked (zip2 less (sel_l ms ys xs) ys)) (sym (tops_compared w16 ltb xs ys)) ∙ none)
