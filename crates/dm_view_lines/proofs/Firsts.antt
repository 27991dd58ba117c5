-- The first place of an octet, as a search finds it.
use Rattle.std.proofs.Common.{[], ◌∷◌, refl, ◌+◌, ◌≡◌, ℕ, Bool, true, false, None, Some, List, length, take, drop, get_or, arith, subst}
use Rattle.std.specs.List.{position_or_len, slice_split}
use Rattle.std.proofs.lemmas.List.Elements.{All-from_get_or}
use Rattle.std.proofs.lemmas.List.Splits.{slice_split_none, slice_split_first}
use Rattle.std.proofs.lemmas.List.Sums.{position_or_len_is}
use Rattle.memchr.specs.Find.{IsFirstByte}

failing : (b : Bool) → ¬ (b ≡ true) → b ≡ false
failing true h = absurd (h refl)
failing false h = refl

-- the place that is found
pub found_at : (p : ℕ → Bool) (s : List ℕ) (k : ℕ) → IsFirstByte p s (Some k) → position_or_len p s ≡ k
found_at p s k h =
    let within = h.0.high in
    position_or_len_is p s k 0 (omega (arith, within))
    (λ j below. failing (p (get_or s j 0)) (h.0.before j (omega arith) below)) (λ _. h.1)

-- nothing is found
pub found_none : (p : ℕ → Bool) (s : List ℕ) → IsFirstByte p s None → position_or_len p s ≡ length s
found_none p s h =
    position_or_len_is p s (length s) 0 (omega arith)
    (λ k below. failing (p (get_or s k 0)) (h k (omega arith) below)) (λ below. absurd (omega (arith, below)))

-- the parts, from the first on
pub parts_at : (p : ℕ → Bool) (s : List ℕ) (k : ℕ) → IsFirstByte p s (Some k)
    → slice_split p s ≡ take k s ∷ slice_split p (drop (k + 1) s)
parts_at p s k h =
    let within = h.0.high in
    let at = found_at p s k h in
    let Parts : ℕ → Type 0 = λ n. slice_split p s ≡ take n s ∷ slice_split p (drop (n + 1) s) in
    subst Parts at (slice_split_first p s 0 (omega (arith, at, within)))

-- one part alone
pub parts_none : (p : ℕ → Bool) (s : List ℕ) → IsFirstByte p s None → slice_split p s ≡ s ∷ []
parts_none p s h =
    slice_split_none p s (All-from_get_or (λ b. p b ≡ false) s 0 (λ i below. failing (p (get_or s i 0)) (h i (omega arith) below)))
