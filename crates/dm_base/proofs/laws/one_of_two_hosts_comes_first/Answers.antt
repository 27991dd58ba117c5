-- The law as it is proved for texts.
use Rattle.dm_base.proofs.Orders.{one_comes_first}
use Rattle.dm_base.proofs.laws.one_of_two_hosts_comes_first.Goals as goal

pub returns : goal.returns
returns c = one_comes_first
