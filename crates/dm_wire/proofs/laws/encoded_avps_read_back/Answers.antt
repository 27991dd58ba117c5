-- The law as it is proved for spellings.
use Rattle.dm_wire.proofs.RoundTrips.{list_reads_back}
use Rattle.dm_wire.proofs.laws.encoded_avps_read_back.Goals as goal

pub returns : goal.returns
returns c = list_reads_back
