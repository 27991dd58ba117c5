-- Lanes that are compared with a splat.
use Rattle.std.proofs.Common.{◌≡◌, ℕ, Bool, List, [], ◌∷◌, cond, get_or, map, ap, sym, ◌∙◌, refl, arith, w8, Fits}
use Rattle.std.specs.List.{range_with_len}
use Rattle.std.specs.Simd.Lanes.{Each1, sel_l}
use Rattle.std.proofs.lemmas.List.FromFn.{get_or-map-range_with_len}

-- a choice between lanes that are computed from the same
pub chosen : {A B : Type 0} (p : A → Bool) (f g : A → B) (v : List A) {ms : List Bool} {xs ys : List B} → ms ≡ map p v
    → xs ≡ map f v → ys ≡ map g v → sel_l ms xs ys ≡ map (λ a. cond (p a) (f a) (g a)) v
chosen {A = A} p f g v is also and = rw (is, also, and) (by v) where
  by : (v : List A) → sel_l (map p v) (map f v) (map g v) ≡ map (λ a. cond (p a) (f a) (g a)) v
  by [] = refl
  by (a ∷ v) = ap (λ l. cond (p a) (f a) (g a) ∷ l) (by v)

-- what is the same at each of 256 octets is the same in lanes of octets
pub same_of_octets : (f g : ℕ → ℕ) → map f (range_with_len 0 256) ≡ map g (range_with_len 0 256) → (v : List ℕ)
    → Each1 (Fits w8) v → map f v ≡ map g v
same_of_octets f g table [] fits = refl
same_of_octets f g table (b ∷ v) fits =
    let small = fits.0.fits in
    let one : f b ≡ g b = sym (get_or-map-range_with_len f 0 256 b b 0 (omega (arith, small)) (omega arith))
    ∙ ap (λ t. get_or t b 0) table ∙ get_or-map-range_with_len g 0 256 b b 0 (omega (arith, small)) (omega arith) in
    rw (one, same_of_octets f g table v fits.1) refl
