-- The law as it is proved for tests.
use Rattle.dm_wire.proofs.Equalities.{list_decides}
use Rattle.dm_wire.proofs.laws.equal_avp_lists_are_the_same.Goals as goal

pub returns : goal.returns
returns c = list_decides
