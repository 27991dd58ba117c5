-- The law as it is proved for spellings.
use Rattle.dm_wire.proofs.Existence.{list_or_bad}
use Rattle.dm_wire.proofs.laws.octets_spell_avps_or_have_bad_one.Goals as goal

pub returns : goal.returns
returns c = list_or_bad
