use Rattle.dm_two_peers.specs.Settled.{IsSettledRun}
use Rattle.dm_two_peers.proofs.Settling.{settled}
use Rattle.dm_two_peers.proofs.Ending.{each_ends}
use Rattle.dm_two_peers.proofs.laws.clean_runs_settle_as_elected.Goals as goal

pub returns : goal.returns
returns g c =
    λ m t el w rest hs clean. each_ends m t el w rest hs clean (λ r. IsSettledRun m t w hs r)
    (λ g l pair wins loses r is z. settled m t g l pair wins loses w hs r z)
