-- Lanes of sixteen bits.
use Rattle.std.proofs.Common.{◌≡◌, ◌<◌, ◌≤◌, ◌+◌, ◌-◌, ◌%◌, ◌∙◌, ℕ, zero, suc, true, List, [], ◌∷◌, bit_or, cond, eqb-true, nat_eq, ltb, length, refl, sym, arith, w16, Fits, inl, inr}
use Rattle.std.proofs.lemmas.Bool.{and_parts, cases_lt}
use Rattle.std.proofs.lemmas.Bool.Decides.{nat_tests}
use Rattle.std.proofs.lemmas.Nat.{le_or_l, le_or_r}
use Rattle.std.specs.Simd.Lanes.{Each1, sel_l, zip2}
use Rattle.dm_dict.specs.Lanes.{is_unmarked, AreUnder}

abbrev pub less : ℕ → ℕ → ℕ
less a b = (a + (65536 - b)) % 65536

past_one : (a b : ℕ) → a < 65536 → b < 65536 → nat_eq (less (cond (ltb a b) b a) b) 0 ≡ true → a ≤ b
past_one a b small fits none = elim (cases_lt a b) [
  | inl below ↦ omega (arith, below)
  | inr above ↦
      let far : nat_eq (less (cond (ltb a b) b a) b) 0 ≡ nat_eq ((a + (65536 - b)) % 65536) 0 = grind (arith, nat_tests, above) in
      let rest : (a + (65536 - b)) % 65536 ≡ 0 = eqb-true _ 0 (sym far ∙ none) in
      omega (arith, rest, above)
]

-- what goes past nothing is under it
pub past_none : (xs ys : List ℕ) → length xs ≡ length ys → Each1 (Fits w16) xs → Each1 (Fits w16) ys
    → is_unmarked (zip2 less (sel_l (zip2 ltb xs ys) ys xs) ys) ≡ true → AreUnder xs ys
past_none [] ys long fits fit none i below = absurd (omega (arith, below))
past_none (x ∷ xs) [] long fits fit none i below = absurd (omega (arith, long))
past_none (x ∷ xs) (y ∷ ys) long fits fit none zero below =
    let first = fits.0.fits in
    let second = fit.0.fits in
    past_one x y (omega (arith, first)) (omega (arith, second)) (and_parts _ _ none).0
past_none (x ∷ xs) (y ∷ ys) long fits fit none (suc i) below =
    past_none xs ys (omega (arith, long)) fits.1 fit.1 (and_parts _ _ none).1 i (omega (arith, below))

either_one : (a b : ℕ) → nat_eq (bit_or a b) 0 ≡ true → (nat_eq a 0 ≡ true) × (nat_eq b 0 ≡ true)
either_one a b none =
    let is : bit_or a b ≡ 0 = eqb-true (bit_or a b) 0 none in
    let left = le_or_l a b in
    let right = le_or_r a b in
    (grind (arith, nat_tests, is, left), grind (arith, nat_tests, is, right))

-- where neither is anything both are nothing
pub either_none : (xs ys : List ℕ) → length xs ≡ length ys → is_unmarked (zip2 bit_or xs ys) ≡ true
    → (is_unmarked xs ≡ true) × (is_unmarked ys ≡ true)
either_none [] [] long none = (refl, refl)
either_none [] (y ∷ ys) long none = absurd (omega (arith, long))
either_none (x ∷ xs) [] long none = absurd (omega (arith, long))
either_none (x ∷ xs) (y ∷ ys) long none =
    let (here, rest) = and_parts _ _ none in
    let (left, right) = either_one x y here in
    let (lefts, rights) = either_none xs ys (omega (arith, long)) rest in
    (rw (left, lefts) refl, rw (right, rights) refl)
