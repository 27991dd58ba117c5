-- All are empty.
use Rattle.std.proofs.Common.{◌≡◌, ◌<◌, ℕ, zero, suc, get_or, refl, arith}
use Rattle.std.proofs.Math.ListN.{replicate}
use Rattle.dm_dict.proofs.seats.empty_seats.Goals as goal

empty_at : (n i : ℕ) → i < n → get_or {A = ℕ} (replicate n 255) i 0 ≡ 255
empty_at zero i h = absurd (omega arith)
empty_at (suc n) zero h = refl
empty_at (suc n) (suc i) h = empty_at n i (omega arith)

pub returns : goal.returns
returns c = λ i h. empty_at 128 i h
