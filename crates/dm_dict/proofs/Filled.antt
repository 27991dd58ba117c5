-- Lanes that tell of entries, one more.
use Rattle.std.proofs.Common.{◌≡◌, ◌<◌, ◌≤◌, ◌+◌, ◌-◌, ◌∙◌, ℕ, zero, suc, List, [], ◌∷◌, ◌++◌, get_or, length, length-append, map, replicate, set, take, ap, arith}
use Rattle.std.proofs.lemmas.List.{length-map, length-replicate, length-take, set-append_left, set-append_right}

-- what is told of the first ones, in so many lanes
abbrev pub told : {A : Type 0} → (A → ℕ) → List A → ℕ → ℕ → List ℕ
told f xs at room = map f (take at xs) ++ replicate (room - at) 0

pub told_more : {A : Type 0} (f : A → ℕ) (xs : List A) (at room : ℕ) (x : A) → at < length xs → length xs ≤ room
    → x ≡ get_or xs at x → set (told f xs at room) at (f x) ≡ told f xs (at + 1) room
told_more f [] at room x below fits is = absurd (omega (arith, below))
told_more f (y ∷ ys) zero room x below fits is = by room fits where
  by : (room : ℕ) → length (y ∷ ys) ≤ room → set (told f (y ∷ ys) zero room) zero (f x) ≡ told f (y ∷ ys) 1 room
  by zero fits = absurd (omega (arith, fits))
  by (suc r) fits =
      let all : suc r - zero ≡ suc r = omega arith in
      let rest : suc r - 1 ≡ r = omega arith in
      rw (all, rest) (ap (λ v. f v ∷ replicate r 0) is)
told_more f (y ∷ ys) (suc at) zero x below fits is = absurd (omega (arith, fits))
told_more f (y ∷ ys) (suc at) (suc r) x below fits is =
    let here : suc r - suc at ≡ r - at = omega arith in
    let next : suc at + 1 ≡ suc (at + 1) = omega arith in
    let after : suc r - suc (at + 1) ≡ r - (at + 1) = omega arith in
    rw (next, here, after) (ap (λ l. f y ∷ l) (told_more f ys at r x (omega (arith, below)) (omega (arith, fits)) is))

pub told_long : {A : Type 0} (f : A → ℕ) (xs : List A) (at room : ℕ) → at ≤ length xs → length xs ≤ room
    → length (told f xs at room) ≡ room
told_long f xs at room few fits =
    let a = length-append (map f (take at xs)) (replicate (room - at) 0) in
    let b = length-map (take at xs) f in
    let c = length-take at xs in
    let d = length-replicate {A = ℕ} (room - at) 0 in
    omega (arith, a, b, c, d, few, fits)

-- one more in both halves
pub both_more : {A : Type 0} (f g : A → ℕ) (xs : List A) (at room : ℕ) (x : A) → at < length xs → length xs ≤ room
    → x ≡ get_or xs at x
    → set (set (told f xs at room ++ told g xs at room) at (f x)) (room + at) (g x)
    ≡ told f xs (at + 1) room ++ told g xs (at + 1) room
both_more f g xs at room x below fits is =
    let long = told_long f xs at room (omega (arith, below)) fits in
    let more = told_long f xs (at + 1) room (omega (arith, below)) fits in
    let there : room + at - room ≡ at = omega arith in
    let first : set (told f xs at room ++ told g xs at room) at (f x) ≡ told f xs (at + 1) room ++ told g xs at room =
    set-append_left (told f xs at room) (told g xs at room) at (f x) (omega (arith, below, long, fits))
    ∙ ap (λ l. l ++ told g xs at room) (told_more f xs at room x below fits is) in
    ap (λ l. set l (room + at) (g x)) first
    ∙ set-append_right (told f xs (at + 1) room) (told g xs at room) room (room + at) (g x) more (omega arith)
    ∙ ap (λ k. told f xs (at + 1) room ++ set (told g xs at room) k (g x)) there
    ∙ ap (λ l. told f xs (at + 1) room ++ l) (told_more g xs at room x below fits is)
