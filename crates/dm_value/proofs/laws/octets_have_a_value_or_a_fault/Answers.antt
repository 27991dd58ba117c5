-- From what `flaw` answers.
use Rattle.dm_value.proofs.Valued.{one_or_other}
use Rattle.dm_value.proofs.laws.octets_have_a_value_or_a_fault.Goals as goal

pub returns : goal.returns
returns c = one_or_other c.flaw_decides_fault_or_value.ensures
