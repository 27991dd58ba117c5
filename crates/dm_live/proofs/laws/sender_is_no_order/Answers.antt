use Rattle.dm_live.proofs.Apart.{no_order}
use Rattle.dm_live.proofs.laws.sender_is_no_order.Goals as goal

pub returns : goal.returns
returns c = no_order
