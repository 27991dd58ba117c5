-- Counters within their bounds, eight more.
use Rattle.std.proofs.Common.{◌≡◌, ◌<◌, ◌≤◌, ◌+◌, ◌-◌, ℕ, List, get_or, length, arith, inl, inr}
use Rattle.std.proofs.lemmas.Bool.{cases_lt}
use Rattle.std.proofs.lemmas.Simd.{get_or-chunk, length-chunk}
use Rattle.std.specs.Simd.Lanes.{chunk}
use Rattle.dm_dict.specs.Bounds.{WithinTo}
use Rattle.dm_dict.specs.Lanes.{AreUnder}

-- one of eight lanes that are under others
under_at : (xs ys : List ℕ) (n i : ℕ) → n + 8 ≤ length xs → AreUnder (chunk n 8 xs) (chunk n 8 ys) → n ≤ i → i < n + 8
    → get_or xs i 0 ≤ get_or ys i 0
under_at xs ys n i long under above below =
    let k = i - n in
    let few : k < 8 = omega arith in
    let there : n + k ≡ i = omega arith in
    let inside : k < length (chunk n 8 xs) = omega (arith, few, length-chunk n 8 xs long) in
    let left : get_or (chunk n 8 xs) k 0 ≡ get_or xs i 0 = rw there at (get_or-chunk n 8 xs k 0 few) in
    let right : get_or (chunk n 8 ys) k 0 ≡ get_or ys i 0 = rw there at (get_or-chunk n 8 ys k 0 few) in
    rw (← left, ← right) (under k inside)

pub eight_more : (mins maxs counts : List ℕ) (n : ℕ) → n + 8 ≤ length mins → n + 8 ≤ length counts
    → WithinTo n mins maxs counts → AreUnder (chunk n 8 mins) (chunk n 8 counts)
    → AreUnder (chunk n 8 counts) (chunk n 8 maxs) → WithinTo (n + 8) mins maxs counts
eight_more mins maxs counts n long counted before low high i below = elim (cases_lt i n) [
  | inl less ↦ before i less
  | inr more ↦
      (under_at mins counts n i long low more below, under_at counts maxs n i counted high more below)
]
