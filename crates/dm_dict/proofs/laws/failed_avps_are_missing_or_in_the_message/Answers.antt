use Rattle.dm_dict.proofs.Placed.{each_failed_is_there}
use Rattle.dm_dict.proofs.laws.failed_avps_are_missing_or_in_the_message.Goals as goal

pub returns : goal.returns
returns c = each_failed_is_there
