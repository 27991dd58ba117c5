-- The places of links, one entry at a time.
use Rattle.std.proofs.Common.{◌≡◌, ◌<◌, ℕ, zero, suc, ◌+◌, Bool, true, false, if◌then◌else◌, Option, None, Some, List, [], ◌∷◌, length, take, get_or, refl, sym, ◌∙◌, ap, arith}
use Rattle.std.specs.List.{position_from}
use Rattle.std.specs.Option.{option_or}

-- one element more
pub position_push : {A : Type 0} (p : A → Bool) (j : ℕ) (xs : List A) (i : ℕ) (d : A) → i < length xs
    → position_from p j (take (i + 1) xs) ≡
    option_or (position_from p j (take i xs)) (if p (get_or xs i d) then Some (j + i) else None)
position_push p j [] i d h = absurd (omega arith)
position_push p j (x ∷ xs) zero d h = by (p x) refl where
  by : (b : Bool) → p x ≡ b → (if p x then Some j else None) ≡ (if p x then Some (j + 0) else None)
  by true e = let z : j ≡ j + 0 = omega arith in ap (λ n. if p x then Some n else None) z
  by false e = rw e refl
position_push p j (x ∷ xs) (suc i) d h = by (p x) refl (position_push p (j + 1) xs i d (omega arith)) where
  more : suc i + 1 ≡ suc (i + 1)
  more = omega arith

  same : j + 1 + i ≡ j + suc i
  same = omega arith

  by : (b : Bool) → p x ≡ b
      → position_from p (j + 1) (take (i + 1) xs) ≡
      option_or (position_from p (j + 1) (take i xs)) (if p (get_or xs i d) then Some (j + 1 + i) else None) →
      position_from p j (take (suc i + 1) (x ∷ xs)) ≡
      option_or (position_from p j (take (suc i) (x ∷ xs)))
      (if p (get_or (x ∷ xs) (suc i) d) then Some (j + suc i) else None)
  by true e ih = rw (more, e) refl
  by false e ih = rw (more, e, ← same) ih

-- one element more, where the places of the elements before it are known
pub place_step : {A : Type 0} (p : A → Bool) (xs : List A) (i : ℕ) (d : A) (b : Bool) (old new : Option ℕ)
    → i < length xs → b ≡ p (get_or xs i d) → old ≡ position_from p 0 (take i xs)
    → new ≡ option_or old (if b then Some i else None) → new ≡ position_from p 0 (take (i + 1) xs)
place_step p xs i d b old new h e known one =
    let zero_on : 0 + i ≡ i = omega arith in
    one ∙ rw (known, e) (sym (rw zero_on at (position_push p 0 xs i d h)))
