-- The law as it is proved for meanings.
use Rattle.dm_value.proofs.Meanings.{no_fault}
use Rattle.dm_value.proofs.laws.octets_of_values_have_no_fault.Goals as goal

pub returns : goal.returns
returns c = no_fault
