-- Lines of one word, looked at sixteen octets at once.
use Rattle.std.proofs.Common.{◌≡◌, ◌≤◌, ◌+◌, ◌*◌, ◌∙◌, ℕ, Bool, false, None, List, [], ◌∷◌}
use Rattle.std.proofs.Common.{inl, inr, cond, flat_map, get_or, ltb, nat_lt, length, map, take, append-nil, refl, sym, arith, ap, w8, Fits}
use Rattle.std.proofs.lemmas.Bool.{cases_lt}
use Rattle.std.proofs.lemmas.List.{take_all}
use Rattle.std.proofs.lemmas.List.FromFn.{get_or-map-range_with_len}
use Rattle.std.proofs.lemmas.Simd.{none_from_empty_mask, tops_compared, zip2_of_maps}
use Rattle.std.specs.List.{before_first, range_with_len}
use Rattle.std.specs.Simd.Lanes.{Each1, chunk, mask_l, sel_l, top, zip2}
use Rattle.memchr.specs.Find.{IsFirstByte}
use Rattle.dm_text.specs.Hexadecimal.{word_octets}
use Rattle.dm_view_lines.specs.Digits.{begins_comment, digits_of_words, is_between, octets_of_line, without_mark, without_prefix}
use Rattle.dm_view_lines.specs.OneWord.{low_marks, ends_digits, NoneEnds}
use Rattle.dm_view_lines.proofs.Firsts.{found_none, parts_none}

-- a choice between lanes that are computed from the same
pub chosen : {A B : Type 0} (p : A → Bool) (f g : A → B) (v : List A) {ms : List Bool} {xs ys : List B} → ms ≡ map p v
    → xs ≡ map f v → ys ≡ map g v → sel_l ms xs ys ≡ map (λ a. cond (p a) (f a) (g a)) v
chosen {A = A} p f g v is also and = rw (is, also, and) (by v) where
  by : (v : List A) → sel_l (map p v) (map f v) (map g v) ≡ map (λ a. cond (p a) (f a) (g a)) v
  by [] = refl
  by (a ∷ v) = ap (λ l. cond (p a) (f a) (g a) ∷ l) (by v)

-- the bits of a comparison between lanes that are computed from the same
pub bits_of_maps : (f g : ℕ → ℕ) (v : List ℕ) {xs ys : List ℕ} → xs ≡ map f v → ys ≡ map g v
    → map (top 7) (zip2 (λ a b. cond (ltb a b) 255 0) xs ys) ≡ map (λ a. ltb (f a) (g a)) v
bits_of_maps f g v {xs} {ys} is also = tops_compared w8 ltb xs ys ∙ zip2_of_maps ltb f g v is also

-- lanes with themselves
pub with_itself : (f : ℕ → ℕ → ℕ) (v : List ℕ) → zip2 f v v ≡ map (λ a. f a a) v
with_itself f [] = refl
with_itself f (a ∷ v) = ap (λ l. f a a ∷ l) (with_itself f v)

-- what is told alike of each of 256 octets is told alike in lanes of octets
pub told_of_octets : (p q : ℕ → Bool) → map p (range_with_len 0 256) ≡ map q (range_with_len 0 256) → (v : List ℕ)
    → Each1 (Fits w8) v → map p v ≡ map q v
told_of_octets p q table [] fits = refl
told_of_octets p q table (b ∷ v) fits =
    let small = fits.0.fits in
    let one : p b ≡ q b = sym (get_or-map-range_with_len p 0 256 b b false (omega (arith, small)) (omega arith))
    ∙ ap (λ t. get_or t b false) table ∙ get_or-map-range_with_len q 0 256 b b false (omega (arith, small)) (omega arith) in
    rw (one, told_of_octets p q table v fits.1) refl

-- ---- the lower of two marks

abbrev pub lower_lanes : List ℕ → List ℕ → List ℕ
lower_lanes xs ys = sel_l (zip2 ltb xs ys) xs ys

lower_mark : (x y m n k : ℕ) → cond (ltb (cond (ltb x y) x y) 128) 1 0 + 2 * k ≡ 0 → (k ≡ 0 → (m ≡ 0) × (n ≡ 0))
    → (cond (ltb x 128) 1 0 + 2 * m ≡ 0) × (cond (ltb y 128) 1 0 + 2 * n ≡ 0)
lower_mark x y m n k none others =
    let low : (k ≡ 0) × ((128 ≤ x) × (128 ≤ y)) = grind (arith, none) in
    let (left, right) = others low.0 in
    let more = low.1.0 in
    let most = low.1.1 in
    (grind (arith, left, more), grind (arith, right, most))

pub lower_both : (xs ys : List ℕ) → length xs ≡ length ys → low_marks (lower_lanes xs ys) ≡ 0
    → (low_marks xs ≡ 0) × (low_marks ys ≡ 0)
lower_both [] [] long none = (refl, refl)
lower_both [] (y ∷ ys) long none = absurd (omega (arith, long))
lower_both (x ∷ xs) [] long none = absurd (omega (arith, long))
lower_both (x ∷ xs) (y ∷ ys) long none =
    lower_mark x y (low_marks xs) (low_marks ys) (low_marks (lower_lanes xs ys)) none
    (λ others. lower_both xs ys (omega (arith, long)) others)

-- ---- octets that end no word

-- those of a run behind, or within, so many
pub none_in_run : (line marks : List ℕ) (i n : ℕ) → i + 16 ≤ length line → i ≤ n
    → map (λ mark. nat_lt mark 128) marks ≡ map ends_digits (chunk i 16 line) → low_marks marks ≡ 0
    → NoneEnds line n → NoneEnds line (i + 16)
none_in_run line marks i n within le is none before k below = elim (cases_lt k n) [
  | inl less ↦ before k less
  | inr more ↦
      none_from_empty_mask ends_digits line i 16 0 within (ap mask_l (sym is) ∙ none) k (omega (arith, more, le)) below
]

no_comment : (b : ℕ) → ends_digits b ≡ false → begins_comment b ≡ false
no_comment b is = grind (arith, is)

no_gap : (b : ℕ) → ends_digits b ≡ false → is_between b ≡ false
no_gap b is = grind (arith, is)

none_found : (p : ℕ → Bool) (line : List ℕ) → ((b : ℕ) → ends_digits b ≡ false → p b ≡ false) → NoneEnds line (length line)
    → IsFirstByte p line None
none_found p line of none = λ k from below found. absurd (cc (sym found ∙ of (get_or line k 0) (none k below)))

-- a line of one word
pub one_word : (line : List ℕ) → without_mark line ≡ line → without_prefix line ≡ line → NoneEnds line (length line)
    → octets_of_line line ≡ word_octets line
one_word line mark prefix none =
    let whole : before_first begins_comment line ≡ line =
    ap (λ n. take n line) (found_none begins_comment line (none_found begins_comment line no_comment none))
    ∙ take_all (length line) line (omega arith) in
    let one : digits_of_words line ≡ line =
    ap (flat_map without_prefix) (parts_none is_between line (none_found is_between line no_gap none))
    ∙ append-nil (without_prefix line) ∙ prefix in
    ap (λ l. word_octets (digits_of_words (before_first begins_comment l))) mark
    ∙ ap (λ l. word_octets (digits_of_words l)) whole ∙ ap word_octets one
