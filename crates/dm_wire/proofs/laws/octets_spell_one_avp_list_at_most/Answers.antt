-- The law as it is proved for spellings.
use Rattle.dm_wire.proofs.Lists.{one_list}
use Rattle.dm_wire.proofs.laws.octets_spell_one_avp_list_at_most.Goals as goal

pub returns : goal.returns
returns c = one_list
