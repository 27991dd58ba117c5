-- The lines of an input, and the line that divides it.
use Rattle.std.proofs.Common.{◌≡◌, ◌<◌, ◌≤◌, ◌+◌, ℕ, suc, Bool, true, false, not, cond, List, [], ◌∷◌, ◌++◌, length}
use Rattle.std.proofs.Common.{take, drop, nat_eq, Some, None, append-nil, append_assoc, arith, ap, ◌∙◌, sym, subst}
use Rattle.std.proofs.Common.{refl}
use Rattle.std.specs.List.{concat, onto_first, position, position_or_len}
use Rattle.std.proofs.Math.Seq.{take-length, drop-length, take-add}
use Rattle.std.proofs.lemmas.List.{drop-drop}
use Rattle.dm_tool.specs.Divided.{whole_lines, is_divider, before_divider, behind_divider, dictionary_part}
use Rattle.dm_tool.specs.Divided.{message_part}
use Rattle.dm_tool.proofs.Positions.{place_of, no_place}

abbrev feeds : ℕ → Bool
feeds b = nat_eq b 10

-- a line put behind one octet more
onto_line : (b n : ℕ) (s : List ℕ) (ls : List (List ℕ)) → ls ≡ take (n + 1) s ∷ whole_lines (drop (n + 1) s)
    → onto_first b ls ≡ take (1 + n + 1) (b ∷ s) ∷ whole_lines (drop (1 + n + 1) (b ∷ s))
onto_line b n s ls e =
    let on : 1 + n + 1 ≡ suc (n + 1) = omega arith in
    rw on (ap (onto_first b) e)

-- up to the first LF is a line
whole-upto : (s : List ℕ) → position_or_len feeds s < length s
    → whole_lines s ≡ take (position_or_len feeds s + 1) s ∷ whole_lines (drop (position_or_len feeds s + 1) s)
whole-upto [] h = absurd (omega arith)
whole-upto (b ∷ s) below = by (nat_eq b 10) (whole-upto s) below where
  by : (v : Bool)
      → (position_or_len feeds s < length s →
      whole_lines s ≡ take (position_or_len feeds s + 1) s ∷ whole_lines (drop (position_or_len feeds s + 1) s))
      → cond (not v) (1 + position_or_len feeds s) 0 < length (b ∷ s)
      → cond v ((b ∷ []) ∷ whole_lines s) (onto_first b (whole_lines s)) ≡
      take (cond (not v) (1 + position_or_len feeds s) 0 + 1) (b ∷ s) ∷ whole_lines
      (drop (cond (not v) (1 + position_or_len feeds s) 0 + 1) (b ∷ s))
  by true later h = refl
  by false later h = onto_line b (position_or_len feeds s) s (whole_lines s) (later (omega arith))

-- what is left without an LF is one line
whole-rest : (b : ℕ) (s : List ℕ) → length (b ∷ s) ≤ position_or_len feeds (b ∷ s) → whole_lines (b ∷ s) ≡ (b ∷ s) ∷ []
whole-rest b [] most = by (nat_eq b 10) most where
  by : (v : Bool) → 1 ≤ cond (not v) 1 0 → cond v ((b ∷ []) ∷ []) (onto_first b []) ≡ (b ∷ []) ∷ []
  by true h = refl
  by false h = refl
whole-rest b (c ∷ s) most = by (nat_eq b 10) (whole-rest c s) most where
  by : (v : Bool) → (length (c ∷ s) ≤ position_or_len feeds (c ∷ s) → whole_lines (c ∷ s) ≡ (c ∷ s) ∷ [])
      → length (b ∷ c ∷ s) ≤ cond (not v) (1 + position_or_len feeds (c ∷ s)) 0
      → cond v ((b ∷ []) ∷ whole_lines (c ∷ s)) (onto_first b (whole_lines (c ∷ s))) ≡ (b ∷ c ∷ s) ∷ []
  by true later h = absurd (omega arith)
  by false later h = ap (onto_first b) (later (omega arith))

pub line-fed : (s : List ℕ) (n : ℕ) → position feeds s ≡ Some n
    → whole_lines s ≡ take (n + 1) s ∷ whole_lines (drop (n + 1) s)
line-fed s n found =
    let at = place_of feeds s n found in
    let Line : ℕ → Type 0 = λ k. whole_lines s ≡ take (k + 1) s ∷ whole_lines (drop (k + 1) s) in
    subst Line at.0 (whole-upto s at.1)

pub line-last : (s : List ℕ) → position feeds s ≡ None → nat_eq (length s) 0 ≡ false
    → whole_lines s ≡ take (length s) s ∷ whole_lines (drop (length s) s)
line-last [] found some = absurd (cc)
line-last (b ∷ s) found some =
    let whole = whole-rest b s (no_place feeds (b ∷ s) found) in
    whole ∙ rw (take-length (b ∷ s), drop-length (b ∷ s)) refl

-- all lines make up the octets
onto-concat : (b : ℕ) (ls : List (List ℕ)) → concat (onto_first b ls) ≡ b ∷ concat ls
onto-concat b [] = refl
onto-concat b (l ∷ ls) = refl

pub whole-concat : (s : List ℕ) → concat (whole_lines s) ≡ s
whole-concat [] = refl
whole-concat (b ∷ s) = by (nat_eq b 10) (whole-concat s) where
  by : (v : Bool) → concat (whole_lines s) ≡ s
      → concat (cond v ((b ∷ []) ∷ whole_lines s) (onto_first b (whole_lines s))) ≡ b ∷ s
  by true later = ap (λ t. b ∷ t) later
  by false later = onto-concat b (whole_lines s) ∙ ap (λ t. b ∷ t) later

-- a line that doesn't divide belongs to the dictionary
goes-on : (s : List ℕ) (n : ℕ) → whole_lines s ≡ take n s ∷ whole_lines (drop n s) → is_divider (take n s) ≡ false
    → (dictionary_part s ≡ take n s ++ dictionary_part (drop n s)) × (message_part s ≡ message_part (drop n s))
goes-on s n whole other = (
  ap (λ l. concat (before_divider l)) whole ∙ ap
      (λ v. concat (cond v [] (take n s ∷ before_divider (whole_lines (drop n s))))) other,
  ap (λ l. concat (behind_divider l)) whole ∙ ap
      (λ v. concat (cond v (whole_lines (drop n s)) (behind_divider (whole_lines (drop n s))))) other,
)

-- a line that divides ends the dictionary
ends-here : (s : List ℕ) (n : ℕ) → whole_lines s ≡ take n s ∷ whole_lines (drop n s) → is_divider (take n s) ≡ true
    → (dictionary_part s ≡ []) × (message_part s ≡ drop n s)
ends-here s n whole divider = (
  ap (λ l. concat (before_divider l)) whole ∙ ap
      (λ v. concat (cond v [] (take n s ∷ before_divider (whole_lines (drop n s))))) divider,
  ap (λ l. concat (behind_divider l)) whole ∙ ap
      (λ v. concat (cond v (whole_lines (drop n s)) (behind_divider (whole_lines (drop n s))))) divider ∙ whole-concat
      (drop n s),
)

-- behind the first n octets, whose lines belong to the dictionary, stands a line of m octets
pub one-more : (s : List ℕ) (n m : ℕ) → whole_lines (drop n s) ≡ take m (drop n s) ∷ whole_lines (drop m (drop n s))
    → is_divider (take m (drop n s)) ≡ false
    → dictionary_part s ≡ take n s ++ dictionary_part (drop n s) → message_part s ≡ message_part (drop n s)
    → (dictionary_part s ≡ take (n + m) s ++ dictionary_part (drop (n + m) s)) ×
    (message_part s ≡ message_part (drop (n + m) s))
one-more s n m whole other dictionary messages =
    let on = goes-on (drop n s) m whole other in (
      dictionary ∙ ap (λ v. take n s ++ v) on.0 ∙ sym
          (append_assoc (take n s) (take m (drop n s)) (dictionary_part (drop m (drop n s))))
          ∙ ap (λ v. v ++ dictionary_part (drop m (drop n s))) (sym (take-add n m s)) ∙ ap
          (λ v. take (n + m) s ++ dictionary_part v) (drop-drop m n s),
      messages ∙ on.1 ∙ ap message_part (drop-drop m n s),
    )

pub divided : (s : List ℕ) (n m : ℕ) → whole_lines (drop n s) ≡ take m (drop n s) ∷ whole_lines (drop m (drop n s))
    → is_divider (take m (drop n s)) ≡ true
    → dictionary_part s ≡ take n s ++ dictionary_part (drop n s) → message_part s ≡ message_part (drop n s)
    → (take n s ≡ dictionary_part s) × (drop (n + m) s ≡ message_part s)
divided s n m whole divider dictionary messages =
    let here = ends-here (drop n s) m whole divider in (
      sym (dictionary ∙ ap (λ v. take n s ++ v) here.0 ∙ append-nil (take n s)),
      sym (messages ∙ here.1 ∙ drop-drop m n s),
    )
