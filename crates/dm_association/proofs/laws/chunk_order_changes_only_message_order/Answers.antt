-- The law as it is proved for lists of chunks.
use Rattle.dm_association.proofs.OrderOfChunks.{order_changes_nothing}
use Rattle.dm_association.proofs.laws.chunk_order_changes_only_message_order.Goals as goal

pub returns : goal.returns
returns c = order_changes_nothing
