-- The law as it is proved for user messages.
use Rattle.dm_association.proofs.OneMessage.{one_user_message}
use Rattle.dm_association.proofs.laws.no_chunk_is_in_two_messages.Goals as goal

pub returns : goal.returns
returns c = one_user_message
