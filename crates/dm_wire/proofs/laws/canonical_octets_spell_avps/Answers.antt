-- The law as it is proved for spellings.
use Rattle.dm_wire.proofs.RoundTrips.{canonical_list_spells}
use Rattle.dm_wire.proofs.laws.canonical_octets_spell_avps.Goals as goal

pub returns : goal.returns
returns c = canonical_list_spells
