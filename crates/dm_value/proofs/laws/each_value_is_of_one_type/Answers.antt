-- The law as it is proved for meanings.
use Rattle.dm_value.proofs.Meanings.{one_type}
use Rattle.dm_value.proofs.laws.each_value_is_of_one_type.Goals as goal

pub returns : goal.returns
returns c = one_type
