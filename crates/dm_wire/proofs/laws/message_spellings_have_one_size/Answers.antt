-- The law as it is proved for spellings.
use Rattle.dm_wire.proofs.RoundTrips.{one_size}
use Rattle.dm_wire.proofs.laws.message_spellings_have_one_size.Goals as goal

pub returns : goal.returns
returns c = one_size
