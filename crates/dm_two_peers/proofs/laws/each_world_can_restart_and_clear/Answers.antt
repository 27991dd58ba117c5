use Rattle.dm_two_peers.proofs.Clearing.{can_clear_proof}
use Rattle.dm_two_peers.proofs.laws.each_world_can_restart_and_clear.Goals as goal

pub returns : goal.returns
returns g c = can_clear_proof
