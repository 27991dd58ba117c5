-- The messages that lie wholly in so many octets, counted from the front.
use Rattle.std.proofs.Common.{◌≡◌, ℕ, ◌+◌, ◌-◌, ◌<◌, ◌≤◌, true, false, List, [], ◌∷◌, ◌++◌, length, take, drop}
use Rattle.std.proofs.Common.{get_or, refl, sym, ap, subst, ◌∙◌, arith, append_assoc}
use Rattle.std.specs.Prelude.{nat_le}
use Rattle.std.proofs.lemmas.List.{drop_more, take_more, append-nil, drop_all}
use Rattle.std.proofs.lemmas.Bool.Decides.{nat_tests}
use Rattle.dm_two_peers.specs.Happens.{whole_in}

fits : (a k : ℕ) → a ≤ k → nat_le a k ≡ true
fits a k h = grind (arith, nat_tests)

not_fits : (a k : ℕ) → k < a → nat_le a k ≡ false
not_fits a k h = grind (arith, nat_tests)

whole_first : (k : ℕ) (x : List ℕ) (xs : List (List ℕ)) → length x ≤ k →
    whole_in length k (x ∷ xs) ≡ x ∷ whole_in length (k - length x) xs
whole_first k x xs h = rw (fits (length x) k h) refl

whole_none : (k : ℕ) (x : List ℕ) (xs : List (List ℕ)) → k < length x → whole_in length k (x ∷ xs) ≡ []
whole_none k x xs h = rw (not_fits (length x) k h) refl

-- what the first i messages and the whole ones behind them come to
abbrev pub AreWhole : ℕ → ℕ → ℕ → List (List ℕ) → Type 0
AreWhole i left kept xs = take i xs ++ whole_in length left (drop i xs) ≡ whole_in length kept xs

-- the message at i fits
pub whole_more : (i left kept : ℕ) (xs : List (List ℕ)) (x y : List ℕ) → AreWhole i left kept xs → i < length xs →
    y ≡ x → x ≡ get_or xs i x → length y ≤ left → AreWhole (i + 1) (left - length y) kept xs
whole_more i left kept xs x y so h is at fit =
    let rest = whole_in length (left - length x) (drop (i + 1) xs) in
    let fits_x : length x ≤ left = subst (λ z. length z ≤ left) is fit in
    let here : drop i xs ≡ x ∷ drop (i + 1) xs = drop_more xs i x h ∙ ap (λ z. z ∷ drop (i + 1) xs) (sym at) in
    let front : take (i + 1) xs ≡ take i xs ++ x ∷ [] = take_more xs i x h ∙ ap (λ z. take i xs ++ z ∷ []) (sym at) in
    rw is
    (ap (λ s. s ++ rest) front
    ∙ append_assoc (take i xs) (x ∷ []) rest
    ∙ ap (λ s. take i xs ++ s) (sym (whole_first left x (drop (i + 1) xs) fits_x))
    ∙ ap (λ s. take i xs ++ whole_in length left s) (sym here)
    ∙ so)

-- the message at i is the first that doesn't
pub whole_stop : (i left kept : ℕ) (xs : List (List ℕ)) (x y : List ℕ) → AreWhole i left kept xs → i < length xs →
    y ≡ x → x ≡ get_or xs i x → left < length y → take i xs ≡ whole_in length kept xs
whole_stop i left kept xs x y so h is at over =
    let over_x : left < length x = subst (λ z. left < length z) is over in
    let here : drop i xs ≡ x ∷ drop (i + 1) xs = drop_more xs i x h ∙ ap (λ z. z ∷ drop (i + 1) xs) (sym at) in
    sym (append-nil (take i xs))
    ∙ ap (λ s. take i xs ++ s) (sym (whole_none left x (drop (i + 1) xs) over_x))
    ∙ ap (λ s. take i xs ++ whole_in length left s) (sym here)
    ∙ so

-- no message is left
pub whole_end : (i left kept : ℕ) (xs : List (List ℕ)) → AreWhole i left kept xs → length xs ≤ i →
    take i xs ≡ whole_in length kept xs
whole_end i left kept xs so h =
    sym (append-nil (take i xs)) ∙ ap (λ s. take i xs ++ whole_in length left s) (sym (drop_all i xs h)) ∙ so
