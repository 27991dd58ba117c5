-- A second has units, and more than a time has where they don't fit in 64 bits.
use Rattle.std.proofs.Common.{arith}
use Rattle.dm_capture.proofs.Seconds.{second_has_units, pair_of_long}
use Rattle.dm_capture.proofs.time.seconds_and_units.Goals as goal

pub nonzero_div-result : goal.nonzero_div-result
nonzero_div-result c = rw c.in-Some.ensures.1 (second_has_units c.args.resolution)

pub nonzero_rem-result : goal.nonzero_rem-result
nonzero_rem-result c = rw c.in-Some.ensures.1 (second_has_units c.args.resolution)

pub returns-in-None : goal.returns-in-None
returns-in-None c = pair_of_long c.args.resolution c.args.units (omega arith) c.in-None.ensures
