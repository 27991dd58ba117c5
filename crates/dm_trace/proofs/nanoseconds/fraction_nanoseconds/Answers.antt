use Rattle.std.proofs.Common.{arith}
use Rattle.dm_trace.proofs.Seconds.{second_has_units, less_than_one}
use Rattle.dm_trace.proofs.nanoseconds.fraction_nanoseconds.Goals as goal

pub nonzero_div-result : goal.nonzero_div-result
nonzero_div-result c = rw c.in-Some.ensures.1 (second_has_units c.args.time.resolution)

pub returns-in-None : goal.returns-in-None
returns-in-None c = less_than_one c.args.time.resolution c.args.time.fraction (omega arith) c.in-None.ensures
