-- The law as it is proved for members.
use Rattle.dm_wire.proofs.Members.{spelled_members}
use Rattle.dm_wire.proofs.laws.spelled_avps_are_members.Goals as goal

pub returns : goal.returns
returns c = λ s l spelled. spelled_members l s spelled
