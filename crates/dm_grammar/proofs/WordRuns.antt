-- Words whose octets are looked at sixteen at once.
use Rattle.std.proofs.Common.{◌≡◌, ◌<◌, ◌≤◌, ◌+◌, ◌∙◌, ℕ, zero, suc, Bool, true, false, List, [], ◌∷◌, cond, eqb, get_or, ltb, not, length, drop, map, refl, sym, ap, arith, w8, Fits}
use Rattle.std.proofs.lemmas.Bool.Decides.{nat_tests}
use Rattle.std.proofs.lemmas.List.Folds.{prefix_len-append}
use Rattle.std.proofs.lemmas.List.FromFn.{get_or-map-range_with_len}
use Rattle.std.proofs.lemmas.Simd.{chunk-drop, leading_from_mask_l, length-chunk, tops_compared, trailing_mask_l, zip2_of_maps}
use Rattle.std.specs.List.{prefix_len, range_with_len}
use Rattle.std.specs.Simd.Lanes.{Each1, chunk, mask_l, sel_l, top, zip2}
use lib.Count.{count_trailing_zeros}
use Rattle.dm_grammar.specs.Symbols.{goes_on}

-- a choice between lanes that are computed from the same
pub chosen : {A B : Type 0} (p : A → Bool) (f g : A → B) (v : List A) {ms : List Bool} {xs ys : List B} → ms ≡ map p v
    → xs ≡ map f v → ys ≡ map g v → sel_l ms xs ys ≡ map (λ a. cond (p a) (f a) (g a)) v
chosen {A = A} p f g v is also and = rw (is, also, and) (by v) where
  by : (v : List A) → sel_l (map p v) (map f v) (map g v) ≡ map (λ a. cond (p a) (f a) (g a)) v
  by [] = refl
  by (a ∷ v) = ap (λ l. cond (p a) (f a) (g a) ∷ l) (by v)

-- the bits of a comparison between lanes that are computed from the same
pub bits_of_maps : (f g : ℕ → ℕ) (v : List ℕ) {xs ys : List ℕ} → xs ≡ map f v → ys ≡ map g v
    → map (top 7) (zip2 (λ a b. cond (ltb a b) 255 0) xs ys) ≡ map (λ a. ltb (f a) (g a)) v
bits_of_maps f g v {xs} {ys} is also = tops_compared w8 ltb xs ys ∙ zip2_of_maps ltb f g v is also

-- what is told alike of each of 256 octets is told alike in lanes of octets
pub told_of_octets : (p q : ℕ → Bool) → map p (range_with_len 0 256) ≡ map q (range_with_len 0 256) → (v : List ℕ)
    → Each1 (Fits w8) v → map p v ≡ map q v
told_of_octets p q table [] fits = refl
told_of_octets p q table (b ∷ v) fits =
    let small = fits.0.fits in
    let one : p b ≡ q b = sym (get_or-map-range_with_len p 0 256 b b false (omega (arith, small)) (omega arith))
    ∙ ap (λ t. get_or t b false) table ∙ get_or-map-range_with_len q 0 256 b b false (omega (arith, small)) (omega arith) in
    rw (one, told_of_octets p q table v fits.1) refl

-- what ends no word goes on with it
ends_not : (v : List ℕ) → prefix_len (λ c. not (not (goes_on c))) v ≡ prefix_len goes_on v
ends_not [] = refl
ends_not (c ∷ v) = by (goes_on c) (ends_not v) where
  by : (b : Bool) → prefix_len (λ c. not (not (goes_on c))) v ≡ prefix_len goes_on v
      → cond (not (not b)) (1 + prefix_len (λ c. not (not (goes_on c))) v) 0 ≡ cond b (1 + prefix_len goes_on v) 0
  by true same = ap (λ n. 1 + n) same
  by false same = refl

-- no octet ends the word
pub no_end : (octets : List ℕ) → length octets ≡ 16 → mask_l (map (λ c. not (goes_on c)) octets) ≡ 0
    → 16 ≡ prefix_len goes_on octets
no_end octets long none = sym (sym (ends_not octets) ∙ leading_from_mask_l (λ c. not (goes_on c)) octets none ∙ long)

positive : (n : ℕ) → (n ≡ 0 → ⊥) → 0 < n
positive zero some = absurd (some refl)
positive (suc n) some = omega arith

-- the first bit that is set is where the word ends
pub first_end : (octets : List ℕ) (ends : ℕ) → length octets ≡ 16 → ends ≡ mask_l (map (λ c. not (goes_on c)) octets)
    → (ends ≡ 0 → ⊥) → count_trailing_zeros 64 ends ≡ prefix_len goes_on octets
first_end octets ends long is some =
    ap (count_trailing_zeros 64) is
    ∙ trailing_mask_l (λ c. not (goes_on c)) 64 octets (omega (arith, long)) (positive _ (λ none. some (is ∙ none)))
    ∙ ends_not octets

-- a run of which all is a word's, and one in which the word ends
pub run_goes_on : (text : List ℕ) (n : ℕ) → n + 16 ≤ length text → 16 ≡ prefix_len goes_on (chunk n 16 text)
    → prefix_len goes_on (drop n text) ≡ 16 + prefix_len goes_on (drop (n + 16) text)
run_goes_on text n within is =
    let long = length-chunk n 16 text within in
    ap (prefix_len goes_on) (chunk-drop n 16 text) ∙ prefix_len-append goes_on (chunk n 16 text) (drop (n + 16) text)
    ∙ rw (long, ← is) refl

no_whole : (run : ℕ) → run < 16 → eqb run 16 ≡ false
no_whole run few = grind (arith, nat_tests, few)

pub run_ends : (text : List ℕ) (n run : ℕ) → n + 16 ≤ length text → run ≡ prefix_len goes_on (chunk n 16 text)
    → run < 16 → prefix_len goes_on (drop n text) ≡ run
run_ends text n run within is few =
    let long = length-chunk n 16 text within in
    ap (prefix_len goes_on) (chunk-drop n 16 text) ∙ prefix_len-append goes_on (chunk n 16 text) (drop (n + 16) text)
    ∙ rw (long, ← is, no_whole run few) refl
