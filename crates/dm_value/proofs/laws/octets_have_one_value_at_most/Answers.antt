-- The law as it is proved for meanings.
use Rattle.dm_value.proofs.Meanings.{one_value}
use Rattle.dm_value.proofs.laws.octets_have_one_value_at_most.Goals as goal

pub returns : goal.returns
returns c = one_value c.octets_spell_one_avp_list_at_most.ensures
