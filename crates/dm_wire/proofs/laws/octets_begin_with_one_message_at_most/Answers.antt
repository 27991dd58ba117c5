-- The law as it is proved for spellings.
use Rattle.dm_wire.proofs.Messages.{one_message}
use Rattle.dm_wire.proofs.laws.octets_begin_with_one_message_at_most.Goals as goal

pub returns : goal.returns
returns c = λ m k s t x y h g e. let same = one_message m k s t x y h g e in (same.0, same.1)
