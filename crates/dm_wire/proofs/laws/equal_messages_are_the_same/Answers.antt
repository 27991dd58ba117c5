-- The law as it is proved for tests.
use Rattle.dm_wire.proofs.Equalities.{message_decides}
use Rattle.dm_wire.proofs.laws.equal_messages_are_the_same.Goals as goal

pub returns : goal.returns
returns c = message_decides
