-- The law as it is proved for neighbourhoods.
use Rattle.dm_node.proofs.Concerned.{one_is_concerned}
use Rattle.dm_node.proofs.laws.each_event_concerns_one_neighbour_at_most.Goals as goal

pub returns : goal.returns
returns c = one_is_concerned
