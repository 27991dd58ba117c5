-- Lines that stand for something, and how many lines there are.
use Rattle.std.proofs.Common.{◌≡◌, ◌≤◌, ◌+◌, ℕ, Bool, true, false, cond, not, List, [], ◌∷◌, ◌++◌, length, map}
use Rattle.std.proofs.Common.{filter, nat_eq, arith, ap, ◌∙◌}
use Rattle.std.specs.List.{slice_split}
use Rattle.std.specs.Str.Lines.{lines, lines_of_parts}
use Rattle.std.proofs.lemmas.List.{map-append}
use Rattle.std.proofs.lemmas.List.Elements.{filter-append}
use Rattle.std.proofs.lemmas.List.Sums.{count_by-le-length}
use Rattle.std.proofs.lemmas.List.Splits.{length-slice_split}
use Rattle.dm_text.specs.Lines.{trimmed, is_skipped, content}

pub content-append : (s t : List (List ℕ)) → content (s ++ t) ≡ content s ++ content t
content-append s t = ap (filter (λ l. not (is_skipped l))) (map-append trimmed s t) ∙
    filter-append (λ l. not (is_skipped l)) (map trimmed s) (map trimmed t)

parts-count : (parts : List (List ℕ)) → length (lines_of_parts parts) ≤ length parts
parts-count [] = omega arith
parts-count (x ∷ []) = by (nat_eq (length x) 0) where
  by : (v : Bool) → length (cond v [] (x ∷ [])) ≤ 1
  by true = omega arith
  by false = omega arith
parts-count (x ∷ y ∷ parts) = let later = parts-count (y ∷ parts) in omega (arith, later)

pub lines-count : (s : List ℕ) → length (lines s) ≤ length s + 1
lines-count s =
    let most = parts-count (slice_split (λ b. nat_eq b 10) s) in
    let size = length-slice_split (λ b. nat_eq b 10) s in
    let few = count_by-le-length (λ b. nat_eq b 10) s in
    omega (arith, most, size, few)
