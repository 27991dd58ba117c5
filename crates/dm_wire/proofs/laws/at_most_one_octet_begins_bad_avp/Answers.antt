-- The law as it is proved for spellings.
use Rattle.dm_wire.proofs.Messages.{one_bad}
use Rattle.dm_wire.proofs.laws.at_most_one_octet_begins_bad_avp.Goals as goal

pub returns : goal.returns
returns c = one_bad
