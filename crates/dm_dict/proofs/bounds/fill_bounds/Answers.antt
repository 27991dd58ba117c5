-- The bounds of one entry more.
use Rattle.std.proofs.Common.{arith}
use Rattle.dm_dict.specs.Bounds.{least_bound, greatest_bound}
use Rattle.dm_dict.proofs.Filled.{both_more}
use Rattle.dm_dict.proofs.bounds.fill_bounds.Goals as goal

pub loop-at-preserved : goal.loop-at-preserved
loop-at-preserved c =
    let at = c.loop-at.at in
    let entry = c.index-entries-at.result in
    rw (c.least_faultless_counter.ensures, c.greatest_faultless_counter.ensures, c.loop-at.invariant)
    (both_more least_bound greatest_bound c.args.entries.now at c.args.room entry (omega arith) c.requires.room
    c.index-entries-at.is)
