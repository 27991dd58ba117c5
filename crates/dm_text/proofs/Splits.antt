-- The first line of an input.
use Rattle.std.proofs.Common.{◌≡◌, ◌<◌, ◌≤◌, ◌+◌, ◌-◌, ℕ, Bool, true, false, cond, List, [], ◌∷◌, length, take, drop}
use Rattle.std.proofs.Common.{nat_lt, nat_eq, Some, None, arith, ap, ◌∙◌, sym, subst, refl}
use Rattle.std.specs.List.{slice_split, onto_first, position, position_or_len, before_first, after_first}
use Rattle.std.specs.Str.Lines.{lines, lines_of_parts, strip_carriage_return}
use Rattle.std.proofs.lemmas.List.{take_rest}
use Rattle.std.proofs.lemmas.List.Elements.{All-from_get_or}
use Rattle.std.proofs.lemmas.List.Splits.{slice_split_none, slice_split_first}
use Rattle.std.proofs.lemmas.List.Sums.{fails_before_first}
use Rattle.std.proofs.lemmas.Bool.{ltb-true, ltb-false}

-- a part with a part behind it is a line
parts-onto : (x : List ℕ) (b : ℕ) (parts : List (List ℕ)) →
    lines_of_parts (x ∷ onto_first b parts) ≡ strip_carriage_return x ∷ lines_of_parts (onto_first b parts)
parts-onto x b [] = refl
parts-onto x b (part ∷ parts) = refl

parts-split : (x s : List ℕ) → lines_of_parts (x ∷ slice_split (λ b. nat_eq b 10) s) ≡ strip_carriage_return x ∷ lines s
parts-split x [] = refl
parts-split x (b ∷ s) = by (nat_eq b 10) where
  by : (v : Bool) →
      lines_of_parts
      (x ∷ cond v ([] ∷ slice_split (λ a. nat_eq a 10) s) (onto_first b (slice_split (λ a. nat_eq a 10) s)))
      ≡ strip_carriage_return x ∷ lines_of_parts
      (cond v ([] ∷ slice_split (λ a. nat_eq a 10) s) (onto_first b (slice_split (λ a. nat_eq a 10) s)))
  by true = refl
  by false = parts-onto x b (slice_split (λ a. nat_eq a 10) s)

pub first_is : (p n : ℕ) (size : ℕ) (v : Bool) → nat_lt p size ≡ v → cond v (Some p) None ≡ Some n →
    (p ≡ n) × (p < size)
first_is p n size true is found = (cc, ltb-true p size is)
first_is p n size false is found = cc

pub none_is : (p : ℕ) (size : ℕ) (v : Bool) → nat_lt p size ≡ v → cond v (Some p) None ≡ None → size ≤ p
none_is p size true is found = cc
none_is p size false is found = ltb-false p size is

-- where LF stands, a line ends
pub lines-fed : (s : List ℕ) (n : ℕ) → position (λ b. nat_eq b 10) s ≡ Some n
    → lines s ≡ strip_carriage_return (take n s) ∷ lines (take (length s - (n + 1)) (drop (n + 1) s))
lines-fed s n found =
    let at = first_is (position_or_len (λ b. nat_eq b 10) s) n (length s) _ refl found in
    let Line : ℕ → Type 0 = λ k. lines s ≡ strip_carriage_return (take k s) ∷ lines (drop (k + 1) s) in
    let whole =
    subst Line at.0
    (ap lines_of_parts (slice_split_first (λ b. nat_eq b 10) s 0 at.1) ∙
    parts-split (before_first (λ b. nat_eq b 10) s) (after_first (λ b. nat_eq b 10) s)) in
    whole ∙ ap (λ v. strip_carriage_return (take n s) ∷ lines v) (sym (take_rest s (n + 1)))

-- what is left without an LF is the last line
pub lines-last : (s : List ℕ) → position (λ b. nat_eq b 10) s ≡ None → nat_eq (length s) 0 ≡ false → lines s ≡ s ∷ []
lines-last s found some =
    let most = none_is (position_or_len (λ b. nat_eq b 10) s) (length s) _ refl found in
    ap lines_of_parts
    (slice_split_none (λ b. nat_eq b 10) s
    (All-from_get_or (λ b. nat_eq b 10 ≡ false) s 0
    (λ i below. fails_before_first (λ b. nat_eq b 10) s i 0 (omega arith))))
    ∙ ap (λ v. cond v [] (s ∷ [])) some
