-- The law as it is proved for spellings.
use Rattle.dm_wire.proofs.RoundTrips.{canonical_spells}
use Rattle.dm_wire.proofs.laws.canonical_octets_spell_message.Goals as goal

pub returns : goal.returns
returns c = canonical_spells
