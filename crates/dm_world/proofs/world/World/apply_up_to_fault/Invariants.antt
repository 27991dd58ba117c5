use Rattle.std.proofs.Common.{take}
use Rattle.dm_world.specs.Settling.{RanTo}
use Rattle.dm_world.proofs.world.World.apply_up_to_fault.Given as goal

abbrev pub invariant-loop-count : goal.invariant-loop-count
invariant-loop-count l = RanTo l.fn.self (take l.count l.list) l.self
