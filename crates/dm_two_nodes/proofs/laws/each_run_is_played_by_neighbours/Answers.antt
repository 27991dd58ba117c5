use Rattle.dm_two_nodes.proofs.Playing.{each_run_is_played}
use Rattle.dm_two_nodes.proofs.laws.each_run_is_played_by_neighbours.Goals as goal

pub returns : goal.returns
returns c = each_run_is_played c.peers_go_by_no_connection_number.ensures c.done_events_are_steps_or_drops.ensures
