-- The law as it is proved for members.
use Rattle.std.proofs.Common.{length, arith}
use Rattle.dm_wire.proofs.Members.{members_spelled, spelled_members}
use Rattle.dm_wire.proofs.laws.members_are_what_octets_spell.Goals as goal

pub returns : goal.returns
returns c = λ s l o. (members_spelled (length s) s l (omega arith) o, spelled_members l s)
