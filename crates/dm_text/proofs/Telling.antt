-- Whether a word tells a number.
use Rattle.std.proofs.Common.{◌≡◌, ◌⊎◌, inl, inr, ℕ, Bool, true, false, nat_lt, nat_le, List, [], ◌∷◌, arith, refl}
use Rattle.std.specs.Str.Parse.{AllDigits, digits_value}
use Rattle.std.specs.Char.{digit_value}
use Rattle.std.proofs.lemmas.Bool.{ltb-true, ltb-false, leb-true, leb-false}
use Rattle.dm_text.specs.Numbers.{TellsUpTo}

all_digits : (s : List ℕ) → AllDigits 10 s ⊎ (AllDigits 10 s → ⊥)
all_digits [] = inl tt
all_digits (c ∷ s) = by (nat_lt (digit_value c) 10) refl (all_digits s) where
  by : (v : Bool) → nat_lt (digit_value c) 10 ≡ v → AllDigits 10 s ⊎ (AllDigits 10 s → ⊥) →
      AllDigits 10 (c ∷ s) ⊎ (AllDigits 10 (c ∷ s) → ⊥)
  by true is (inl h) = inl (ltb-true (digit_value c) 10 is, h)
  by true is (inr h) = inr (λ all. h all.1)
  by false is h = inr (λ all. let most = ltb-false (digit_value c) 10 is in absurd (omega (arith, most, all.0)))

pub number_or_none : (most : ℕ) (word : List ℕ) →
    ((n : ℕ) × TellsUpTo most n word) ⊎ ((n : ℕ) → TellsUpTo most n word → ⊥)
number_or_none most [] = inr (λ n told. absurd (omega (arith, told.0.0)))
number_or_none most (c ∷ s) = by (all_digits (c ∷ s)) (nat_le (digits_value 10 (c ∷ s)) most) refl where
  by : AllDigits 10 (c ∷ s) ⊎ (AllDigits 10 (c ∷ s) → ⊥) → (v : Bool) → nat_le (digits_value 10 (c ∷ s)) most ≡ v
      → ((n : ℕ) × TellsUpTo most n (c ∷ s)) ⊎ ((n : ℕ) → TellsUpTo most n (c ∷ s) → ⊥)
  by (inl h) true is =
      inl (digits_value 10 (c ∷ s), ((omega arith, h), refl, leb-true (digits_value 10 (c ∷ s)) most is))
  by (inl h) false is =
      inr (λ n told. let above = leb-false (digits_value 10 (c ∷ s)) most is in
      absurd (omega (arith, above, told.1, told.2)))
  by (inr h) v is = inr (λ n told. h told.0.1)
