use Rattle.dm_two_nodes.proofs.Numbered.{steps_go_by_no_number}
use Rattle.dm_two_nodes.proofs.laws.steps_go_by_no_connection_number.Goals as goal

pub returns : goal.returns
returns c = steps_go_by_no_number
