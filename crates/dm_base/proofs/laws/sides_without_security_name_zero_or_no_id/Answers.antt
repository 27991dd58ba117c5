-- The law as it is proved of lists of ids.
use Rattle.dm_base.proofs.Sharing.{secure_none}
use Rattle.dm_base.proofs.laws.sides_without_security_name_zero_or_no_id.Goals as goal

pub returns : goal.returns
returns c = λ caps. secure_none caps.security
