-- The first line of what a reader has left.
use Rattle.std.proofs.Common.{◌≡◌, ◌⊎◌, ◌==◌, inl, inr, not, ℕ, Bool, true, false, List, [], ◌∷◌, ◌++◌}
use Rattle.std.proofs.Common.{length, nat_eq, Option, Some, None, IfSome, All, arith, ap, ◌∙◌, sym, refl}
use Rattle.std.proofs.lemmas.Grind.{common_steps}
use Rattle.std.specs.List.{slice_split, onto_first}
use Rattle.std.specs.Str.Lines.{lines, lines_of_parts, strip_carriage_return}
use Rattle.std.specs.Io.BufRead.{take_through, drop_through, DropsThrough}
use Rattle.std.proofs.lemmas.List.Splits.{slice_split_none, slice_split_at}
use Rattle.dm_live.specs.Input.{without_end, GivesLine}

abbrev IsNoLf : ℕ → Type 0
IsNoLf = λ b. nat_eq b 10 ≡ false

-- a line, its LF, and what stands behind that
abbrev EndsAt : List ℕ → Type 0
EndsAt octets =
    (line rest : List ℕ) × (octets ≡ line ++ 10 ∷ rest) × All IsNoLf line
    × (take_through 10 octets ≡ line ++ 10 ∷ []) × (drop_through 10 octets ≡ rest)

-- one line without an LF
abbrev EndsNowhere : List ℕ → Type 0
EndsNowhere octets = All IsNoLf octets × (take_through 10 octets ≡ octets) × (drop_through 10 octets ≡ [])

ends : (octets : List ℕ) → EndsAt octets ⊎ EndsNowhere octets
ends [] = inr (grind (arith, common_steps), refl, refl)
ends (b ∷ octets) = by (nat_eq b 10) refl (ends octets) where
  by : (v : Bool) → nat_eq b 10 ≡ v → EndsAt octets ⊎ EndsNowhere octets
      → EndsAt (b ∷ octets) ⊎ EndsNowhere (b ∷ octets)
  by true is later = inl ([], octets, grind arith, grind (arith, common_steps), grind arith, grind arith)
  by false is (inl at) = inl (b ∷ at.0, at.1, grind arith, grind (arith, common_steps), grind arith, grind arith)
  by false is (inr nowhere) = inr (grind (arith, common_steps), grind arith, grind arith)

parts-onto : (line : List ℕ) (b : ℕ) (parts : List (List ℕ)) →
    lines_of_parts (line ∷ onto_first b parts) ≡ strip_carriage_return line ∷ lines_of_parts (onto_first b parts)
parts-onto = grind arith

-- a part with a part behind it is a line
parts-split : (line s : List ℕ) →
    lines_of_parts (line ∷ slice_split (λ b. nat_eq b 10) s) ≡ strip_carriage_return line ∷ lines s
parts-split line [] = refl
parts-split line (b ∷ s) = grind (arith, parts-onto)

-- a line with its LF, a line without one
ended : (line : List ℕ) → without_end (line ++ 10 ∷ []) ≡ strip_carriage_return line
ended = grind (arith, common_steps)

unended : (octets : List ℕ) → All IsNoLf octets → without_end octets ≡ octets
unended = grind (arith, common_steps)

-- what is read up to the first LF is the first line
pub first_line : (b : ℕ) (octets : List ℕ) → lines (b ∷ octets)
    ≡ without_end (take_through 10 (b ∷ octets)) ∷ lines (drop_through 10 (b ∷ octets))
first_line b octets = by (ends (b ∷ octets)) where
  by : EndsAt (b ∷ octets) ⊎ EndsNowhere (b ∷ octets) → lines (b ∷ octets)
      ≡ without_end (take_through 10 (b ∷ octets)) ∷ lines (drop_through 10 (b ∷ octets))
  by (inl at) =
      let split = ap lines_of_parts (slice_split_at (λ v. nat_eq v 10) at.0 10 at.1 at.3 refl) in
      cc (ap lines at.2, split, parts-split at.0 at.1, ended at.0, at.4, at.5)
  by (inr nowhere) =
      let split = ap lines_of_parts (slice_split_none (λ v. nat_eq v 10) (b ∷ octets) nowhere.0) in
      grind (arith, split, unended (b ∷ octets) nowhere.0, nowhere.1, nowhere.2)

-- so the octets up to the first LF, or none at the end
pub line_or_end : (old new : Option (List ℕ)) (chunk line : List ℕ) (n : ℕ) (none : Bool)
    → IfSome old (λ octets. chunk ≡ take_through 10 octets) × DropsThrough old new 10
    → n ≡ length chunk → none ≡ (n == 0) → line ≡ without_end chunk
    → IfSome old (λ octets. GivesLine octets new (not none) line)
line_or_end None new chunk line n none read size is taken = tt
line_or_end (Some []) new chunk line n none (read, drops) size is taken =
    let at_end : none ≡ true = grind arith in rw (drops, at_end) refl
line_or_end (Some (b ∷ octets)) new chunk line n none (read, drops) size is taken =
    let more : none ≡ false = grind (arith, common_steps) in
    rw (drops, more) (first_line b octets ∙ ap (λ v. v ∷ lines (drop_through 10 (b ∷ octets))) (sym (taken ∙ ap without_end read)))
