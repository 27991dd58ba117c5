-- The law as it is proved for spellings.
use Rattle.dm_wire.proofs.Messages.{no_refusal}
use Rattle.dm_wire.proofs.laws.octets_of_messages_have_no_fault.Goals as goal

pub returns : goal.returns
returns c = no_refusal
