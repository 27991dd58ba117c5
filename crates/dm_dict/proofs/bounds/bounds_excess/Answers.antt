-- Eight more.
use Rattle.std.proofs.Common.{◌≡◌, ◌+◌, ◌*◌, subst, arith}
use Rattle.dm_dict.specs.Bounds.{WithinTo}
use Rattle.dm_dict.proofs.Within.{eight_more}
use Rattle.dm_dict.proofs.bounds.bounds_excess.Goals as goal

pub eights-preserved : goal.eights-preserved
eights-preserved c = λ none.
    let mins = c.args.mins.now in
    let maxs = c.args.maxs.now in
    let counts = c.args.counts.now in
    let k = c.eights.k in
    let next : 8 * k + 8 ≡ 8 * (k + 1) = omega arith in
    let here = c.joined_marks-outside.ensures.second none in
    subst (λ n. WithinTo n mins maxs counts) next
    (eight_more mins maxs counts (8 * k) (omega arith) (omega arith)
    (c.eights.invariant (c.joined_marks-outside.ensures.first none)) (c.lane_excess-under.ensures (c.joined_marks.ensures.first here))
    (c.lane_excess-over.ensures (c.joined_marks.ensures.second here)))
