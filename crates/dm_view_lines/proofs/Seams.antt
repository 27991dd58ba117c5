-- Lines of octets that come in pieces.
use Rattle.std.proofs.Common.{◌≡◌, ◌≢◌, ◌≤◌, ◌<◌, ◌+◌, ◌-◌, ℕ, zero, suc, Bool, true, false, All, cond, List, [], ◌∷◌, ◌++◌, inl, inr}
use Rattle.std.proofs.Common.{length, length-append, length-take-le, take, get_or, slice_index, nat_eq, append_assoc, append-nil, arith, ap, sym, ◌∙◌, refl, subst, zero-le, eq-eqb, eqb-true}
use Rattle.std.specs.List.{slice_split, onto_first}
use Rattle.std.specs.Str.Lines.{lines, lines_of_parts, strip_carriage_return}
use Rattle.std.proofs.lemmas.Bool.{ne_eqb}
use Rattle.std.proofs.lemmas.List.{get_or-append-add, get_or_default}
use Rattle.std.proofs.lemmas.List.Elements.{All-append}
use Rattle.std.proofs.lemmas.List.Splits.{slice_split_at}
use Rattle.memchr.specs.Find.{Nowhere, NoneBefore, Passes, is_byte}
use Rattle.dm_view_lines.specs.LineEnds.{HasLineEnds, is_ended, ended}
use Rattle.dm_view_lines.specs.Turns.{BeginsLong, FirstIsLong}

abbrev pub NoLf : ℕ → Type 0
NoLf = λ b. b ≢ 10

none_in : All NoLf []
none_in k d below = absurd (omega (arith, below))

parts-onto : (x : List ℕ) (b : ℕ) (parts : List (List ℕ))
    → lines_of_parts (x ∷ onto_first b parts) ≡ strip_carriage_return x ∷ lines_of_parts (onto_first b parts)
parts-onto x b [] = refl
parts-onto x b (part ∷ parts) = refl

parts-split : (x s : List ℕ) → lines_of_parts (x ∷ slice_split (λ b. nat_eq b 10) s) ≡ strip_carriage_return x ∷ lines s
parts-split x [] = refl
parts-split x (b ∷ s) = by (nat_eq b 10) where
  by : (v : Bool) →
      lines_of_parts
      (x ∷ cond v ([] ∷ slice_split (λ a. nat_eq a 10) s) (onto_first b (slice_split (λ a. nat_eq a 10) s)))
      ≡ strip_carriage_return x ∷ lines_of_parts
      (cond v ([] ∷ slice_split (λ a. nat_eq a 10) s) (onto_first b (slice_split (λ a. nat_eq a 10) s)))
  by true = refl
  by false = parts-onto x b (slice_split (λ a. nat_eq a 10) s)

-- the first line of octets
line_first : (line rest : List ℕ) → All NoLf line → lines (line ++ 10 ∷ rest) ≡ strip_carriage_return line ∷ lines rest
line_first line rest none =
    ap lines_of_parts
    (slice_split_at (λ b. nat_eq b 10) line 10 rest (λ k d below. ne_eqb (get_or line k d) 10 (none k d below)) refl)
    ∙ parts-split line rest

-- what is behind has lines of its own
abbrev pub Joins : List ℕ → Type 0
Joins s = (t : List ℕ) → lines (s ++ t) ≡ lines s ++ lines t

joins-line : (line : List ℕ) → All NoLf line → Joins (line ++ 10 ∷ [])
joins-line line none t =
    ap lines (append_assoc line (10 ∷ []) t) ∙ line_first line t none
    ∙ ap (λ l. l ++ lines t) (sym (line_first line [] none))

joins-append : (a b : List ℕ) → Joins a → Joins b → Joins (a ++ b)
joins-append a b h k t =
    ap lines (append_assoc a b t) ∙ h (b ++ t) ∙ ap (λ l. lines a ++ l) (k t)
    ∙ sym (append_assoc (lines a) (lines b) (lines t)) ∙ ap (λ l. l ++ lines t) (sym (h b))

one_more : (line : List ℕ) (b : ℕ) → nat_eq b 10 ≡ false → All NoLf line → All NoLf (line ++ b ∷ [])
one_more line b other none = All-append NoLf line (b ∷ []) none one where
  one : All NoLf (b ∷ [])
  one zero d below is = absurd (let same = eq-eqb b 10 is in cc)
  one (suc k) d below is = absurd (omega (arith, below))

joins-ended : (line s : List ℕ) → All NoLf line → Joins (line ++ (s ++ 10 ∷ []))
joins-ended line [] none = joins-line line none
joins-ended line (b ∷ s) none =
    by (nat_eq b 10) refl (joins-ended [] s none_in) (λ is. joins-ended (line ++ b ∷ []) s (one_more line b is none)) where
      by : (v : Bool) → nat_eq b 10 ≡ v → Joins (s ++ 10 ∷ [])
          → (nat_eq b 10 ≡ false → Joins ((line ++ b ∷ []) ++ (s ++ 10 ∷ []))) → Joins (line ++ (b ∷ (s ++ 10 ∷ [])))
      by true is behind on =
          let lf = eqb-true b 10 is in
          let Whole : List ℕ → Type 0 = Joins in
          subst Whole (append_assoc line (10 ∷ []) (s ++ 10 ∷ []) ∙ ap (λ v. line ++ (v ∷ (s ++ 10 ∷ []))) (sym lf))
          (joins-append (line ++ 10 ∷ []) (s ++ 10 ∷ []) (joins-line line none) behind)
      by false is behind on =
          let Whole : List ℕ → Type 0 = Joins in subst Whole (append_assoc line (b ∷ []) (s ++ 10 ∷ [])) (on is)

pub whole-joins : (s : List ℕ) → HasLineEnds s → Joins s
whole-joins s (inl none) = let Whole : List ℕ → Type 0 = Joins in subst Whole (sym none) (λ t. refl)
whole-joins s (inr h) = let Whole : List ℕ → Type 0 = Joins in subst Whole (sym h.1) (joins-ended [] h.0 none_in)

pub whole-append : (a b : List ℕ) → HasLineEnds a → HasLineEnds b → HasLineEnds (a ++ b)
whole-append a b h (inl none) = let Whole : List ℕ → Type 0 = HasLineEnds in
    subst Whole (sym (ap (λ v. a ++ v) none ∙ append-nil a)) h
whole-append a b h (inr k) = inr (a ++ k.0, ap (λ v. a ++ v) k.1 ∙ sym (append_assoc a k.0 (10 ∷ [])))

-- up to the first line feed, and with it
pub whole_to : (held octets : List ℕ) (at : ℕ) → NoneBefore (Passes (is_byte 10) octets) 0 (length octets) at
    → Passes (is_byte 10) octets at → HasLineEnds (held ++ take (at + 1) octets)
whole_to held octets at first is = inr (
  held ++ take at octets,
  ap (λ v. held ++ v) (taken octets at first.high is) ∙ sym (append_assoc held (take at octets) (10 ∷ [])),
) where
  taken : (s : List ℕ) (k : ℕ) → k < length s → Passes (is_byte 10) s k → take (k + 1) s ≡ take k s ++ 10 ∷ []
  taken [] k below is = absurd (omega (arith, below))
  taken (b ∷ s) zero below is = let lf : b ≡ 10 = eqb-true b 10 is in ap (λ v. v ∷ []) lf
  taken (b ∷ s) (suc k) below is =
      let next : suc k + 1 ≡ suc (k + 1) = omega arith in
      ap (λ n. take n (b ∷ s)) next ∙ ap (λ v. b ∷ v) (taken s k (omega (arith, below)) is)

pub none_anywhere : (octets : List ℕ) → Nowhere (Passes (is_byte 10) octets) 0 (length octets) → All NoLf octets
none_anywhere octets none k d below is =
    none k zero-le below (eq-eqb _ _ (sym (get_or_default octets k d 0 below) ∙ is))

-- a front of whole lines, and the end of the rest
last_of : (a : List ℕ) (b : ℕ) (t : List ℕ)
    → get_or (a ++ (b ∷ t)) (length (a ++ (b ∷ t)) - 1) 10 ≡ get_or (b ∷ t) (length (b ∷ t) - 1) 10
last_of a b t =
    let size = length-append a (b ∷ t) in
    let at : length (a ++ (b ∷ t)) - 1 ≡ length a + (length (b ∷ t) - 1) = omega (arith, size) in
    ap (λ k. get_or (a ++ (b ∷ t)) k 10) at ∙ get_or-append-add a (b ∷ t) (length (b ∷ t) - 1) 10

whole-ended : (a : List ℕ) → HasLineEnds a → is_ended a ≡ true
whole-ended a (inl none) = ap is_ended none
whole-ended a (inr h) = ap is_ended h.1 ∙ ap (λ v. nat_eq v 10) (last_of h.0 10 [])

pub ended-front : (a : List ℕ) (b : ℕ) (t : List ℕ) → ended (a ++ (b ∷ t)) ≡ a ++ ended (b ∷ t)
ended-front a b t =
    ap (λ v. cond (nat_eq v 10) (a ++ (b ∷ t)) ((a ++ (b ∷ t)) ++ 10 ∷ [])) (last_of a b t)
    ∙ by (is_ended (b ∷ t)) where
      by : (v : Bool) → cond v (a ++ (b ∷ t)) ((a ++ (b ∷ t)) ++ 10 ∷ []) ≡ a ++ cond v (b ∷ t) ((b ∷ t) ++ 10 ∷ [])
      by true = refl
      by false = append_assoc a (b ∷ t) (10 ∷ [])

pub ended-behind : (a b : List ℕ) → HasLineEnds a → ended (a ++ b) ≡ a ++ ended b
ended-behind a [] h =
    ap ended (append-nil a) ∙ ap (λ v. cond v a (a ++ 10 ∷ [])) (whole-ended a h) ∙ sym (append-nil a)
ended-behind a (b ∷ t) h = ended-front a b t

-- the lines of a front and of what is behind
pub lines-behind : (a b : List ℕ) → HasLineEnds a → lines (ended (a ++ b)) ≡ lines a ++ lines (ended b)
lines-behind a b h = ap lines (ended-behind a b h) ∙ whole-joins a h (ended b)

-- ---- a line that begins with what is held

ended-one : (held : List ℕ) → All NoLf held → 0 < length held → ended held ≡ held ++ 10 ∷ []
ended-one held one some =
    ap (λ v. cond v held (held ++ 10 ∷ []))
    (ne_eqb (get_or held (length held - 1) 10) 10 (one (length held - 1) 10 (omega (arith, some))))

-- the first line of octets that begin with these
record FirstLine (held octets : List ℕ) : Type 0 where
  pub line : List ℕ
  pub rest : List ℕ
  pub parts : octets ≡ line ++ 10 ∷ rest
  pub one : All NoLf line
  pub most : length held ≤ length line

first-of : (held more : List ℕ) → All NoLf held → 0 < length held → FirstLine held (ended (held ++ more))
first-of held [] one some = record {
  line = held;
  rest = [];
  parts = ap ended (append-nil held) ∙ ended-one held one some;
  one = one;
  most = omega arith;
}
first-of held (b ∷ s) one some =
    by (nat_eq b 10) refl (λ is. first-of (held ++ b ∷ []) s (one_more held b is one) (longer b)) where
      longer : (c : ℕ) → 0 < length (held ++ c ∷ [])
      longer c = let size = length-append held (c ∷ []) in omega (arith, size)

      by : (v : Bool) → nat_eq b 10 ≡ v
          → (nat_eq b 10 ≡ false → FirstLine (held ++ b ∷ []) (ended ((held ++ b ∷ []) ++ s)))
          → FirstLine held (ended (held ++ (b ∷ s)))
      by true is on = record {
        line = held;
        rest = ended s;
        parts = ap (λ v. ended (held ++ (v ∷ s))) (eqb-true b 10 is)
            ∙ ap ended (sym (append_assoc held (10 ∷ []) s))
            ∙ ended-behind (held ++ 10 ∷ []) s (inr (held, refl))
            ∙ append_assoc held (10 ∷ []) (ended s);
        one = one;
        most = omega arith;
      }
      by false is on =
          let first = on is in
          let size = length-append held (b ∷ []) in
          let most = first.most in
          record {
            line = first.line;
            rest = first.rest;
            parts = ap ended (sym (append_assoc held (b ∷ []) s)) ∙ first.parts;
            one = first.one;
            most = omega (arith, size, most);
          }

-- it loses a CR at most
stripped : (l : List ℕ) → length l ≤ length (strip_carriage_return l) + 1
stripped l = by (nat_eq (slice_index l (length l - 1)) 13) where
  by : (v : Bool) → length l ≤ length (cond v (take (length l - 1) l) l) + 1
  by true = let size = length-take-le (length l - 1) l (omega arith) in omega (arith, size)
  by false = omega arith

-- what begins a line that has too many octets does so whatever comes
pub held-long : (held more : List ℕ) → BeginsLong held → FirstIsLong (lines (ended (held ++ more))) []
held-long held more h =
    let size = h.1 in
    let first = first-of held more h.0 (omega (arith, size)) in
    let most = first.most in
    let left = stripped first.line in
    let Lines : List (List ℕ) → Type 0 = λ l. FirstIsLong l [] in
    subst Lines (sym (ap lines first.parts ∙ line_first first.line first.rest first.one)) (omega (arith, size, most, left))
