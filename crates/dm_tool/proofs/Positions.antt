-- Where an octet first stands.
use Rattle.std.proofs.Common.{◌≡◌, ◌<◌, ◌≤◌, ℕ, Bool, true, false, cond, List, length, nat_lt, Some, None, arith, refl}
use Rattle.std.specs.List.{position, position_or_len}
use Rattle.std.proofs.lemmas.Bool.{ltb-false}
use Rattle.std.proofs.lemmas.List.Quantifiers.{position-Some}
use Rattle.std.proofs.lemmas.List.Sums.{position_or_len_is}

pub place_of : (p : ℕ → Bool) (s : List ℕ) (n : ℕ) → position p s ≡ Some n
    → (position_or_len p s ≡ n) × (position_or_len p s < length s)
place_of p s n found =
    let at = position-Some p s n 0 found in
    let is = position_or_len_is p s n 0 (omega (arith, at.0)) at.2 (λ below. at.1) in
    (is, omega (arith, is, at.0))

pub no_place : (p : ℕ → Bool) (s : List ℕ) → position p s ≡ None → length s ≤ position_or_len p s
no_place p s found = by (nat_lt (position_or_len p s) (length s)) refl found where
  by : (v : Bool) → nat_lt (position_or_len p s) (length s) ≡ v → cond v (Some (position_or_len p s)) None ≡ None
      → length s ≤ position_or_len p s
  by true is none = absurd (cc)
  by false is none = ltb-false (position_or_len p s) (length s) is
