-- The law as it is proved for runs of items.
use Rattle.dm_capture.proofs.Readings.{one_reading}
use Rattle.dm_capture.proofs.laws.captures_are_read_in_one_way.Goals as goal

pub returns : goal.returns
returns c = one_reading
