use Rattle.dm_two_nodes.proofs.Meeting.{two_nodes_agree}
use Rattle.dm_two_nodes.proofs.laws.two_nodes_agree.Goals as goal

pub returns : goal.returns
returns c =
    two_nodes_agree c.neighbours_become_the_sides_they_play.ensures c.octet_peers_move_as_the_machine.ensures c.closed_peers_agree_after_each_run.ensures
