-- The law as it is proved for spellings.
use Rattle.dm_wire.proofs.Existence.{message_or_fault}
use Rattle.dm_wire.proofs.laws.octets_spell_message_or_have_fault.Goals as goal

pub returns : goal.returns
returns c = message_or_fault
