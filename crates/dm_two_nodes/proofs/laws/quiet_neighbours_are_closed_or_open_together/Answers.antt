use Rattle.dm_two_nodes.proofs.Meeting.{quiet_nodes_are_shut_or_open}
use Rattle.dm_two_nodes.proofs.laws.quiet_neighbours_are_closed_or_open_together.Goals as goal

pub returns : goal.returns
returns c =
    quiet_nodes_are_shut_or_open c.neighbours_become_the_sides_they_play.ensures
    c.each_octet_quiet_run_is_closed_or_open.ensures
