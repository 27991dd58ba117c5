-- Each turn has one action less.
use Rattle.std.proofs.Common.{length}
use Rattle.dm_slots.proofs.slots.Slots.+shut_connections_closed_by.Given as goal

abbrev pub decreases-shut_connections_closed_by : goal.decreases-shut_connections_closed_by
decreases-shut_connections_closed_by l = length l.actions.now
