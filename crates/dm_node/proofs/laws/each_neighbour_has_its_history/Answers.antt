-- The law as it is proved for each step of a node.
use Rattle.dm_node.proofs.Histories.{histories}
use Rattle.dm_node.proofs.laws.each_neighbour_has_its_history.Goals as goal

pub returns : goal.returns
returns c = histories c.done_events_are_steps_or_drops.ensures
