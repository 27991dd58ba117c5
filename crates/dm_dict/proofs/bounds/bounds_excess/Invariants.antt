use Rattle.std.proofs.Common.{◌≡◌, ◌*◌, true}
use Rattle.dm_dict.specs.Lanes.{is_unmarked}
use Rattle.dm_dict.specs.Bounds.{WithinTo}
use Rattle.dm_dict.proofs.bounds.bounds_excess.Given as goal

abbrev pub invariant-eights : goal.invariant-eights
invariant-eights l = is_unmarked l.outside ≡ true → WithinTo (8 * l.k) l.mins l.maxs l.counts
