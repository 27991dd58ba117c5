use Rattle.dm_machine.proofs.ChangeLemmas.{same_order}
use Rattle.dm_machine.proofs.Ordered.{each_order, each_command}
use Rattle.dm_machine.proofs.laws.connection_orders_are_its_commands.Goals as goal

pub returns : goal.returns
returns c = record { apart = same_order; command = each_order; order = each_command }
