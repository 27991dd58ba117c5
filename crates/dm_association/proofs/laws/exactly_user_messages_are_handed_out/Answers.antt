-- The law as it is proved for passages.
use Rattle.dm_association.proofs.Reassembling.{each_handed_out}
use Rattle.dm_association.proofs.laws.exactly_user_messages_are_handed_out.Goals as goal

pub returns : goal.returns
returns c = each_handed_out
