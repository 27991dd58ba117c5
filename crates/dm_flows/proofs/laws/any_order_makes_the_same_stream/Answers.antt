-- The laws as they are proved for arrivals.
use Rattle.dm_flows.proofs.OneStream.{one_stream, order_changes_nothing}
use Rattle.dm_flows.proofs.laws.any_order_makes_the_same_stream.Goals as goal

pub returns-clause-one : goal.returns-clause-one
returns-clause-one c = one_stream

pub returns-clause-order : goal.returns-clause-order
returns-clause-order c = order_changes_nothing
