-- The law as it is proved.
use Rattle.dm_associations.proofs.WayAccounting.{each_way_accounted}
use Rattle.dm_associations.proofs.laws.octets_of_each_way_add_up.Goals as goal

pub returns : goal.returns
returns c = each_way_accounted c.octets_of_chunks_add_up.ensures
