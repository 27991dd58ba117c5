-- Runs, one after the other.
use Rattle.std.proofs.Common.{◌≡◌, Option, Some, None, List, [], ◌∷◌, ◌++◌, refl}
use Rattle.dm_two_peers.specs.Peers.{Peers}
use Rattle.dm_two_peers.specs.Happens.{Happening, happens, RunEnd, ran_on, run_from}

-- a run and then another
pub run_joined : {P M : Type 0} (m : Peers P M) (o : Option (RunEnd P M)) (hs more : List (Happening M)) →
    run_from m o (hs ++ more) ≡ run_from m (run_from m o hs) more
run_joined m None hs more = refl
run_joined m (Some r) [] more = refl
run_joined m (Some r) (h ∷ hs) more = run_joined m (ran_on r (happens m r.world h)) hs more
