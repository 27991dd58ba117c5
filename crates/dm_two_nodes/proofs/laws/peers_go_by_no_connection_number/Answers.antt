use Rattle.dm_two_nodes.proofs.Acting.{peers_go_by_no_number}
use Rattle.dm_two_nodes.proofs.laws.peers_go_by_no_connection_number.Goals as goal

pub returns : goal.returns
returns c = peers_go_by_no_number c.steps_go_by_no_connection_number.ensures
