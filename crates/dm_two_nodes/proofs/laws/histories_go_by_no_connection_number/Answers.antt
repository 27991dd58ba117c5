use Rattle.dm_two_nodes.proofs.Histories.{history_tells_the_peer, histories_go_by_no_number, same_history_makes_the_same}
use Rattle.dm_two_nodes.proofs.laws.histories_go_by_no_connection_number.Goals as goal

pub returns-clause-determined : goal.returns-clause-determined
returns-clause-determined c = history_tells_the_peer

pub returns-clause-renumbered : goal.returns-clause-renumbered
returns-clause-renumbered c = histories_go_by_no_number c.peers_go_by_no_connection_number.ensures

pub returns-clause-same : goal.returns-clause-same
returns-clause-same c = same_history_makes_the_same c.peers_go_by_no_connection_number.ensures
