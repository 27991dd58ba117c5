-- The law as it is proved for each type.
use Rattle.dm_value.proofs.Meant.{value_meant}
use Rattle.dm_value.proofs.laws.value_in_is_what_octets_mean.Goals as goal

pub returns : goal.returns
returns c = value_meant c.spelled_avps_are_members.ensures
