use Rattle.dm_machine.proofs.ConnectionLaw.{each_connection}
use Rattle.dm_machine.proofs.laws.connection_changes_and_orders_are_allowed.Goals as goal

pub returns : goal.returns
returns c = each_connection
