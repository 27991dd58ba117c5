-- The law as it is proved for spellings.
use Rattle.dm_wire.proofs.RoundTrips.{reads_back}
use Rattle.dm_wire.proofs.laws.encoded_messages_read_back.Goals as goal

pub returns : goal.returns
returns c = reads_back
