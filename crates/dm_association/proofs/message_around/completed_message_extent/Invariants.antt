-- So far the fragments around the place may belong to one message.
use Rattle.std.proofs.Common.{◌+◌, ◌-◌, max, length}
use Rattle.dm_association.specs.MessageRuns.{IsRunAround}
use Rattle.dm_association.proofs.message_around.completed_message_extent.Given as goal

abbrev pub invariant-turns : goal.invariant-turns
invariant-turns l = IsRunAround l.tsns.items l.at l.own l.run

abbrev pub decreases-turns : goal.decreases-turns
decreases-turns l = l.run.first + (max (l.at + 1) (length l.tsns.items) - l.run.last)
