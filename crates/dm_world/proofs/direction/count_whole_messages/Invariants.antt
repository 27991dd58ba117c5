use Rattle.dm_world.proofs.Whole.{AreWhole}
use Rattle.dm_world.proofs.direction.count_whole_messages.Given as goal

abbrev pub invariant-loop-index : goal.invariant-loop-index
invariant-loop-index l = AreWhole l.index l.rest l.kept l.queue.items
