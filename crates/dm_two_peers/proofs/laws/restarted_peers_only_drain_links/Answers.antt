use Rattle.dm_two_peers.proofs.Draining.{restarted_drains}
use Rattle.dm_two_peers.proofs.laws.restarted_peers_only_drain_links.Goals as goal

pub returns : goal.returns
returns g c = restarted_drains
