use Rattle.dm_two_peers.proofs.Sharing.{quiet_is_shared_proof}
use Rattle.dm_two_peers.proofs.laws.quiet_peers_hold_the_same.Goals as goal

pub returns : goal.returns
returns g c = quiet_is_shared_proof
