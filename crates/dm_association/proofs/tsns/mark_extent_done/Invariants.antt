-- So far the first ones are done.
use Rattle.dm_association.proofs.TsnSteps.{FinishesSome}
use Rattle.dm_association.proofs.tsns.mark_extent_done.Given as goal

abbrev pub invariant-chunks : goal.invariant-chunks
invariant-chunks l = FinishesSome l.fn.tsns.items l.extent.first l.index l.freed l.tsns.items
