use Rattle.dm_two_peers.proofs.Joining.{quiet_is_joined_proof}
use Rattle.dm_two_peers.proofs.laws.quiet_peers_are_closed_or_joined.Goals as goal

pub returns : goal.returns
returns g c = quiet_is_joined_proof
