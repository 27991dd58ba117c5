use Rattle.dm_octet_peers.proofs.CanOpen.{world_can_open}
use Rattle.dm_octet_peers.proofs.laws.each_octet_world_can_restart_and_open.Goals as goal

pub returns : goal.returns
returns c =
    world_can_open c.each_world_can_restart_and_open.ensures c.octet_peers_move_as_the_machine.ensures c.paired_octet_peers_hear_and_elect.ensures
