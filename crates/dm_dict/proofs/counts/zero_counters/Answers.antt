-- All are zero.
use Rattle.std.proofs.Common.{◌≡◌, ℕ, zero, suc, get_or, refl}
use Rattle.std.proofs.Math.ListN.{replicate}
use Rattle.dm_dict.proofs.counts.zero_counters.Goals as goal

zero_at : (n i : ℕ) → get_or {A = ℕ} (replicate n 0) i 0 ≡ 0
zero_at zero i = refl
zero_at (suc n) zero = refl
zero_at (suc n) (suc i) = zero_at n i

pub returns : goal.returns
returns g c = λ i. zero_at g.row.SIZE i
