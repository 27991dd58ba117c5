use Rattle.dm_two_peers.specs.Falling.{CanFallQuiet}
use Rattle.dm_two_peers.proofs.Ending.{each_ends}
use Rattle.dm_two_peers.proofs.Finishing.{can_at}
use Rattle.dm_two_peers.proofs.laws.clean_runs_can_settle_as_elected.Goals as goal

pub returns : goal.returns
returns g c =
    λ m t el w rest hs clean. each_ends m t el w rest hs clean (λ r. CanFallQuiet m t w hs)
    (λ g l pair wins loses r is z. can_at m t el g l pair wins loses w hs r is z)
