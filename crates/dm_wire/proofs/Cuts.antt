-- A list cut into the parts of a layout.
use Rattle.std.proofs.Common.{◌≡◌, zero, suc, ◌≤◌, ℕ, ◌+◌, ◌-◌, List, [], ◌∷◌, ◌++◌, length, take, drop, refl, sym, ◌∙◌, ap, arith}
use Rattle.std.proofs.lemmas.List.{take-append-drop, drop-take, drop-append-le, length-take-le}

-- the first elements of the first
pub take-take-le : {A : Type 0} (a b : ℕ) (s : List A) → take a (take (a + b) s) ≡ take a s
take-take-le zero b s = refl
take-take-le (suc a) b [] = let e : suc a + b ≡ suc (a + b) = omega arith in rw e refl
take-take-le (suc a) b (x ∷ s) =
    let e : suc a + b ≡ suc (a + b) = omega arith in rw e (ap (λ l. x ∷ l) (take-take-le a b s))

-- two parts, one after the other
pub take-add : {A : Type 0} (a b : ℕ) (s : List A) → take (a + b) s ≡ take a s ++ take b (drop a s)
take-add a b s = sym (take-append-drop a (take (a + b) s)) ∙ rw (take-take-le a b s, drop-take a b s) refl

-- a part that ends at n, cut at a
pub take_cut : {A : Type 0} (a n : ℕ) (s : List A) → a ≤ n → take n s ≡ take a s ++ take (n - a) (drop a s)
take_cut a n s h = let e : n ≡ a + (n - a) = omega arith in ap (λ k. take k s) e ∙ take-add a (n - a) s

-- what lies from n to past o, cut at o
pub drop-take-add : {A : Type 0} (n o k : ℕ) (s : List A) → n ≤ o → o ≤ length s →
    drop n (take (o + k) s) ≡ drop n (take o s) ++ take k (drop o s)
drop-take-add n o k s in_o in_s =
    let size = length-take-le o s in_s in
    ap (drop n) (take-add o k s) ∙ drop-append-le n (take o s) (take k (drop o s)) (omega arith)

-- what lies behind n, cut at o
pub drop_cut : {A : Type 0} (n o : ℕ) (s : List A) → n ≤ o → o ≤ length s → drop n s ≡ drop n (take o s) ++ drop o s
drop_cut n o s in_o in_s =
    let size = length-take-le o s in_s in
    ap (drop n) (sym (take-append-drop o s)) ∙ drop-append-le n (take o s) (drop o s) (omega arith)
