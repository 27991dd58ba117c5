-- The law as it is proved.
use Rattle.dm_associations.proofs.Packets.{foreign_packets}
use Rattle.dm_associations.proofs.laws.data_with_another_tag_changes_nothing.Goals as goal

pub returns : goal.returns
returns c = foreign_packets
