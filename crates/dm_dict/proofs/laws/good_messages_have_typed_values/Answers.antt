-- The law as it is proved for lists.
use Rattle.dm_dict.proofs.Good.{good_typed}
use Rattle.dm_dict.proofs.laws.good_messages_have_typed_values.Goals as goal

pub returns : goal.returns
returns c = good_typed c.flaw_decides_fault_or_value.ensures
