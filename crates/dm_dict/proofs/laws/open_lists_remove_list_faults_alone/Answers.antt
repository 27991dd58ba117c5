-- The law as it is proved for lists.
use Rattle.dm_dict.proofs.OpenFaults.{open_differs}
use Rattle.dm_dict.proofs.laws.open_lists_remove_list_faults_alone.Goals as goal

pub returns : goal.returns
returns c = open_differs
