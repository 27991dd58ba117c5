use Rattle.dm_two_peers.specs.Falling.{FallsQuiet}
use Rattle.dm_two_peers.proofs.Ending.{each_ends}
use Rattle.dm_two_peers.proofs.Falling.{falls_at}
use Rattle.dm_two_peers.proofs.laws.clean_runs_fall_quiet.Goals as goal

pub returns : goal.returns
returns g c =
    λ m t el w rest hs clean. each_ends m t el w rest hs clean (λ r. FallsQuiet m t w hs r)
    (λ g l pair wins loses r is z. falls_at m t el g l pair wins loses w hs r z)
