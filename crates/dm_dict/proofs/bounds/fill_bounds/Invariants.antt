use Rattle.std.proofs.Common.{◌≡◌, ◌++◌}
use Rattle.dm_dict.specs.Bounds.{least_bound, greatest_bound}
use Rattle.dm_dict.proofs.Filled.{told}
use Rattle.dm_dict.proofs.bounds.fill_bounds.Given as goal

abbrev pub invariant-loop-at : goal.invariant-loop-at
invariant-loop-at l = l.lanes ≡ told least_bound l.entries l.at l.room ++ told greatest_bound l.entries l.at l.room
