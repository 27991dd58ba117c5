use Rattle.dm_dict.proofs.Located.{located_are_faults}
use Rattle.dm_dict.proofs.laws.located_faults_are_the_faults.Goals as goal

pub returns : goal.returns
returns c = located_are_faults
