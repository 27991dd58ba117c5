-- The law as it is proved for lists.
use Rattle.dm_dict.proofs.Kept.{good_kept}
use Rattle.dm_dict.proofs.laws.good_messages_keep_rules.Goals as goal

pub returns : goal.returns
returns c = good_kept c.flaw_decides_fault_or_value.ensures
