-- The first place of an octet, as a search finds it.
use Rattle.std.proofs.Common.{[], ◌∷◌, refl, ◌<◌, suc, ap, not, filter, ◌≡◌, ℕ, Bool, true, false, Option, None, Some, List, length, position, get_or, arith}
use Rattle.std.proofs.lemmas.List.Sums.{position_or_len_is}
use Rattle.memchr.specs.Find.{IsFirstByte}

failing : (b : Bool) → ¬ (b ≡ true) → b ≡ false
failing true h = absurd (h refl)
failing false h = refl

pub first_position : (p : ℕ → Bool) (xs : List ℕ) (r : Option ℕ) → IsFirstByte p xs r → r ≡ position p xs
first_position p xs None h =
    let is = position_or_len_is p xs (length xs) 0 (omega arith)
    (λ k below. failing (p (get_or xs k 0)) (h k (omega arith) below)) (λ below. absurd (omega (arith, below))) in
    grind (arith, is)
first_position p xs (Some k) h =
    let within = h.0.high in
    let is = position_or_len_is p xs k 0 (omega (arith, within))
    (λ j below. failing (p (get_or xs j 0)) (h.0.before j (omega arith) below)) (λ _. h.1) in
    grind (arith, is, within)

pub none_taken_out : (p : ℕ → Bool) (xs : List ℕ) → ((k : ℕ) → k < length xs → ¬ (p (get_or xs k 0) ≡ true))
    → filter (λ x. not (p x)) xs ≡ xs
none_taken_out p [] h = refl
none_taken_out p (x ∷ xs) h =
    let first = failing (p x) (h 0 (omega arith)) in
    rw first (ap (λ l. x ∷ l) (none_taken_out p xs (λ k below. h (suc k) (omega (arith, below)))))
