use Rattle.dm_two_peers.proofs.Opening.{can_open}
use Rattle.dm_two_peers.proofs.laws.each_world_can_restart_and_open.Goals as goal

pub returns : goal.returns
returns g c = λ m t is el keeps w good a b s. can_open m t is el keeps w good a b s
