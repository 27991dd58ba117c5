-- The law as it is proved for framings.
use Rattle.dm_framer.proofs.Framings.{fault_stays}
use Rattle.dm_framer.proofs.laws.faults_of_streams_stay.Goals as goal

pub returns : goal.returns
returns c = fault_stays
