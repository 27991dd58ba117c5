-- Where a fresh peer stands holds what every peer does.
use Rattle.std.proofs.Common.{ℕ, ◌<◌, ◌^◌, refl}
use Rattle.dm_peer.specs.After.{fresh_standing}
use Rattle.dm_peer.specs.KeptAt.{IsKeptAt}

pub fresh_is_kept : (next : ℕ) → next < 256 ^ 4 → IsKeptAt (fresh_standing next)
fresh_is_kept next fit =
    record {
      settled = record { shaped = refl; cea = refl; dwa = λ none. refl; dpa = λ none. refl; waiting = refl };
      fitting = record { next = fit; waiting = tt };
    }
