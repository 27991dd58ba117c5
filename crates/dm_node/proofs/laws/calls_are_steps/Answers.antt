-- The law as it is proved.
use Rattle.dm_node.proofs.Stepping.{order_is_steps, turn_is_steps, adding, removing}
use Rattle.dm_node.proofs.laws.calls_are_steps.Goals as goal

pub returns-clause-order : goal.returns-clause-order
returns-clause-order c = order_is_steps

pub returns-clause-turn : goal.returns-clause-turn
returns-clause-turn c = turn_is_steps

pub returns-clause-added : goal.returns-clause-added
returns-clause-added c = adding

pub returns-clause-removed : goal.returns-clause-removed
returns-clause-removed c = removing
