-- The first word of a line.
use Rattle.std.proofs.Common.{◌≡◌, ◌<◌, ◌+◌, ◌-◌, ℕ, Bool, true, false, cond, not, filter, List, [], ◌∷◌, length}
use Rattle.std.proofs.Common.{length-take, take, drop, nat_eq, Some, None, arith, ap, ◌∙◌, sym, subst, refl}
use Rattle.std.specs.List.{slice_split, onto_first, position, position_or_len}
use Rattle.std.proofs.lemmas.List.{take_rest}
use Rattle.std.proofs.lemmas.List.Elements.{All-from_get_or}
use Rattle.std.proofs.lemmas.List.Splits.{slice_split_none, slice_split_first}
use Rattle.std.proofs.lemmas.List.Sums.{fails_before_first}
use Rattle.std.proofs.lemmas.Bool.{eqb-true, eqb-false}
use Rattle.dm_text.specs.Lines.{drop_spaces}
use Rattle.dm_text.specs.Words.{words}
use Rattle.dm_text.proofs.Splits.{first_is, none_is}

-- the parts that aren't empty
abbrev full : List (List ℕ) → List (List ℕ)
full parts = filter (λ w. not (nat_eq (length w) 0)) parts

-- spaces at the front are no words
words-drop : (s : List ℕ) → words (drop_spaces s) ≡ words s
words-drop [] = refl
words-drop (b ∷ s) = by (words-drop s) (nat_eq b 32) refl where
  by : words (drop_spaces s) ≡ words s → (v : Bool) → nat_eq b 32 ≡ v →
      words (cond v (drop_spaces s) (b ∷ s)) ≡ words (b ∷ s)
  by later true is = later ∙
      ap (λ v. full (cond v ([] ∷ slice_split (λ c. nat_eq c 32) s) (onto_first b (slice_split (λ c. nat_eq c 32) s))))
      (sym is)
  by later false is = refl

-- what is left behind the spaces begins with none
no_space : (s t : List ℕ) → drop_spaces s ≡ 32 ∷ t → ⊥
no_space [] t h = absurd (cc)
no_space (b ∷ s) t h = by (no_space s t) (nat_eq b 32) refl h where
  by : (drop_spaces s ≡ 32 ∷ t → ⊥) → (v : Bool) → nat_eq b 32 ≡ v → cond v (drop_spaces s) (b ∷ s) ≡ 32 ∷ t → ⊥
  by later true is k = later k
  by later false is k = let same : b ≡ 32 = cc in eqb-false b 32 is same

some-none : (n : ℕ) → 0 < n → nat_eq n 0 ≡ false
some-none n some = by (nat_eq n 0) refl where
  by : (v : Bool) → nat_eq n 0 ≡ v → v ≡ false
  by true is = absurd (let zero = eqb-true n 0 is in omega (arith, zero, some))
  by false is = refl

-- a part that isn't empty is a word
word-onto : (x : List ℕ) (parts : List (List ℕ)) → 0 < length x → full (x ∷ parts) ≡ x ∷ full parts
word-onto x parts some = ap (λ v. cond (not v) (x ∷ full parts) (full parts)) (some-none (length x) some)

-- where a space stands, it stands behind something
space_later : (s : List ℕ) (n : ℕ) → ((t : List ℕ) → s ≡ 32 ∷ t → ⊥) → position_or_len (λ b. nat_eq b 32) s ≡ n →
    n < length s → 0 < n
space_later [] n other found below = absurd (omega (arith, below))
space_later (b ∷ s) n other found below = by (nat_eq b 32) refl found where
  by : (v : Bool) → nat_eq b 32 ≡ v → cond (not v) (1 + position_or_len (λ c. nat_eq c 32) s) 0 ≡ n → 0 < n
  by true is k = absurd (other s (ap (λ c. c ∷ s) (eqb-true b 32 is)))
  by false is k = omega (arith, k)

pub words-fed : (line s : List ℕ) (n : ℕ) → s ≡ drop_spaces line → position (λ b. nat_eq b 32) s ≡ Some n
    → words line ≡ take n s ∷ words (take (length s - (n + 1)) (drop (n + 1) s))
words-fed line s n rest found =
    let at = first_is (position_or_len (λ b. nat_eq b 32) s) n (length s) _ refl found in
    let later : 0 < n = space_later s n (λ t is. no_space line t (sym rest ∙ is)) at.0 (rw (sym at.0) at.1) in
    let size : 0 < length (take n s) = simp length-take (omega (arith, later, at.0, at.1)) in
    let Line : ℕ → Type 0 = λ k. words s ≡ full (take k s ∷ slice_split (λ b. nat_eq b 32) (drop (k + 1) s)) in
    let whole : Line n = subst Line at.0 (ap full (slice_split_first (λ b. nat_eq b 32) s 0 at.1)) in
    sym (words-drop line) ∙ ap words (sym rest) ∙ whole ∙
    word-onto (take n s) (slice_split (λ b. nat_eq b 32) (drop (n + 1) s)) size ∙
    ap (λ v. take n s ∷ words v) (sym (take_rest s (n + 1)))

pub words-last : (line s : List ℕ) → s ≡ drop_spaces line → position (λ b. nat_eq b 32) s ≡ None →
    nat_eq (length s) 0 ≡ false → words line ≡ s ∷ []
words-last line s rest found some =
    let most = none_is (position_or_len (λ b. nat_eq b 32) s) (length s) _ refl found in
    sym (words-drop line) ∙ ap words (sym rest)
    ∙ ap full
    (slice_split_none (λ b. nat_eq b 32) s
    (All-from_get_or (λ b. nat_eq b 32 ≡ false) s 0
    (λ i below. fails_before_first (λ b. nat_eq b 32) s i 0 (omega (arith, most, below)))))
    ∙ ap (λ v. cond (not v) (s ∷ []) []) some

pub words-none : (line s : List ℕ) → s ≡ drop_spaces line → nat_eq (length s) 0 ≡ true →
    (words line ≡ []) × (words s ≡ [])
words-none line [] rest none = (sym (words-drop line) ∙ ap words (sym rest), refl)
words-none line (b ∷ s) rest none = absurd (let zero = eqb-true (length (b ∷ s)) 0 none in omega (arith, zero))
