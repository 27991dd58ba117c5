-- The law as it is proved.
use Rattle.dm_associations.proofs.Packets.{ended_packets}
use Rattle.dm_associations.proofs.laws.ended_associations_ignore_all_but_init.Goals as goal

pub returns : goal.returns
returns c = ended_packets
