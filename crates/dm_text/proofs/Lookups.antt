-- A table of sixteen octets that is looked up in lanes.
use Rattle.std.proofs.Common.{◌≡◌, ◌<◌, ◌+◌, ◌*◌, ◌/◌, ◌^◌, ℕ, List, length, get_or, map, replicate, bit_and, ap, refl, sym, ◌∙◌, arith, w8, Fits}
use Rattle.std.proofs.lemmas.List.{ext_get_or, get_or-map, length-map}
use Rattle.std.proofs.lemmas.Nat.{and_le_r}
use Rattle.std.proofs.lemmas.Simd.{Each1-all, Each1-get_or, Each1-weaker, Each1-zip2, Each2-splat, below_from_Fits, length-zip2}
use Rattle.std.proofs.lemmas.Simd.{swz_l, SwzOk, SwzOk-from_below, length-swz_l, get_or-swz_l_below}
use Rattle.std.specs.Simd.Lanes.{Each1, zip2}

abbrev pub AreOctets : List ℕ → Type 0
AreOctets v = (length v ≡ 16) × Each1 (Fits w8) v

abbrev pub down : ℕ → ℕ → ℕ
down a b = a / 2 ^ b

-- each half of an octet is a place in the table
pub highs_ok : (v : List ℕ) → AreOctets v → SwzOk w8 16 16 0 (zip2 down v (replicate 16 4))
highs_ok v fits =
    let small = Each1-weaker (λ a. a < 256) (λ a. a / 16 < 16) (λ a h. omega arith) v (below_from_Fits w8 v fits.1) in
    SwzOk-from_below w8 16 1 16 0 (zip2 down v (replicate 16 4)) refl
    (omega (arith, length-zip2 down v (replicate 16 4) fits.0))
    (Each1-zip2 down (λ j. j < 16) v (replicate 16 4) (Each2-splat (λ a b. down a b < 16) v 16 4 small))

pub lows_ok : (v : List ℕ) → AreOctets v → SwzOk w8 16 16 0 (zip2 bit_and v (replicate 16 15))
lows_ok v fits =
    let small = Each1-all (λ a. bit_and a 15 < 16) (λ a. omega (arith, and_le_r a 15)) v in
    SwzOk-from_below w8 16 1 16 0 (zip2 bit_and v (replicate 16 15)) refl
    (omega (arith, length-zip2 bit_and v (replicate 16 15) fits.0))
    (Each1-zip2 bit_and (λ j. j < 16) v (replicate 16 15) (Each2-splat (λ a b. bit_and a b < 16) v 16 15 small))

-- what is found at places g x below 16
pub looked_up : (table : List ℕ) (g : ℕ → ℕ) (v js : List ℕ) → AreOctets v → js ≡ map g v
    → ((x : ℕ) → x < 256 → g x < 16) → swz_l w8 16 table 0 js ≡ map (λ x. get_or table (g x) 0) v
looked_up table g v js fits e small =
    let long : length js ≡ 16 = ap length e ∙ length-map v g ∙ fits.0 in
    ext_get_or 0 _ _ (length-swz_l w8 16 table 0 js ∙ long ∙ sym (length-map v (λ x. get_or table (g x) 0) ∙ fits.0)) (λ i h.
    let within : i < length v = omega (arith, length-swz_l w8 16 table 0 js, long, fits.0, h) in
    let is : get_or js i 0 ≡ g (get_or v i 0) = ap (λ l. get_or l i 0) e ∙ get_or-map g v i 0 0 within in
    let octet : get_or v i 0 < 256 = (Each1-get_or (Fits w8) v i 0 within fits.1).fits in
    let below : get_or js i 0 < 16 = omega (arith, is, small (get_or v i 0) octet) in
    let row : 16 * ((0 + i) / 16) + get_or js i 0 ≡ get_or js i 0 = omega (arith, within, fits.0) in
    get_or-swz_l_below w8 16 table 0 js i (omega (arith, long, within, fits.0)) below
    ∙ ap (λ k. get_or table k 0) (row ∙ is) ∙ sym (get_or-map (λ x. get_or table (g x) 0) v i 0 0 within))
