-- The law as it is proved for messages.
use Rattle.dm_wire.proofs.Wholes.{message_in_spells}
use Rattle.dm_wire.proofs.laws.message_in_octets_is_what_they_spell.Goals as goal

pub returns : goal.returns
returns c = message_in_spells
