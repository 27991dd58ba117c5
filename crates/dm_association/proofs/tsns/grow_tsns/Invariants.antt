-- So far missing ones were put behind the others.
use Rattle.std.proofs.Common.{◌≤◌, ◌-◌, length, deque_capacity}
use Rattle.dm_association.proofs.TsnSteps.{IsGrown}
use Rattle.dm_association.proofs.tsns.grow_tsns.Given as goal

abbrev pub invariant-missing : goal.invariant-missing
invariant-missing l = IsGrown l.fn.tsns.items l.tsns.items l.size × (l.size ≤ deque_capacity l.tsns)

abbrev pub decreases-missing : goal.decreases-missing
decreases-missing l = l.size - length l.tsns.items
