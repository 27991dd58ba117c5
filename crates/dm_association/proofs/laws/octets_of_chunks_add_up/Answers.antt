-- The law as it is proved for accounts.
use Rattle.dm_association.proofs.ChunkAccounting.{each_accounted}
use Rattle.dm_association.proofs.laws.octets_of_chunks_add_up.Goals as goal

pub returns : goal.returns
returns c = each_accounted
