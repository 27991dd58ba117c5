-- The law as it is proved for messages.
use Rattle.dm_wire.proofs.Wholes.{spelled_in}
use Rattle.dm_wire.proofs.laws.spelled_message_is_found.Goals as goal

pub returns : goal.returns
returns c = λ s m spelled. spelled_in m s spelled
