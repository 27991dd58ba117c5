-- Pieces of text, one behind the other.
use Rattle.std.proofs.Common.{◌≡◌, ◌<◌, ◌≤◌, ◌^◌, ◌+◌, ◌/◌, ◌%◌, ℕ, List, [], ◌∷◌, ◌++◌, cond, Result, Ok, Err, OnOk, ap, sym, ◌∙◌}
use Rattle.std.proofs.Common.{append_assoc, arith, is_ok}
use Rattle.std.specs.Fmt.{decimal}
use Rattle.std.proofs.lemmas.Fmt.{decimal_step, decimal_digit}

-- what is pushed is that text
pub pushed : {T E : Type 0} (r : Result T E) (old new some text : List ℕ) → new ≡ cond (is_ok r) (old ++ some) old
    → text ≡ some → OnOk r (new ≡ old ++ text)
pushed (Ok v) old new some text h is = h ∙ ap (λ v. old ++ v) (sym is)
pushed (Err e) old new some text h is = tt

-- it is pushed behind the front of the text
pub pushed_behind : {T E : Type 0} (r : Result T E) (old front first new some text : List ℕ)
    → front ≡ old ++ first → new ≡ cond (is_ok r) (front ++ some) front → text ≡ first ++ some → OnOk r (new ≡ old ++ text)
pushed_behind (Ok v) old front first new some text f h is =
    h ∙ ap (λ v. v ++ some) f ∙ append_assoc old first some ∙ ap (λ v. old ++ v) (sym is)
pushed_behind (Err e) old front first new some text f h is = tt

pub one_digit : (n : ℕ) → n < 10 → decimal n ≡ (48 + n % 10) ∷ []
one_digit n few =
    let last : n ≡ n % 10 = omega arith in
    decimal_digit n few ∙ ap (λ v. (48 + v) ∷ []) last

pub two_digits : (n : ℕ) → 10 ≤ n → n < 100 → decimal n ≡ (48 + n / 10 % 10) ∷ (48 + n % 10) ∷ []
two_digits n more few =
    decimal_step n more (omega arith) ∙ ap (λ v. v ++ (48 + n % 10) ∷ []) (one_digit (n / 10) (omega arith))

pub three_digits : (n : ℕ) → 100 ≤ n → n < 1000 → decimal n ≡ (48 + n / 100 % 10) ∷ (48 + n / 10 % 10) ∷ (48 + n % 10) ∷ []
three_digits n more few =
    let hundreds : n / 10 / 10 ≡ n / 100 = omega arith in
    decimal_step n (omega arith) (omega arith)
    ∙ ap (λ v. v ++ (48 + n % 10) ∷ []) (two_digits (n / 10) (omega arith) (omega arith))
    ∙ ap (λ v. (48 + v % 10) ∷ (48 + n / 10 % 10) ∷ (48 + n % 10) ∷ []) hundreds

-- the number without its last three digits, and then these
pub more_digits : (n : ℕ) → 1000 ≤ n → n < 2 ^ 64
    → decimal n ≡ decimal (n / 1000) ++ (48 + n / 100 % 10) ∷ (48 + n / 10 % 10) ∷ (48 + n % 10) ∷ []
more_digits n more fits =
    let hundreds : n / 10 / 10 ≡ n / 100 = omega arith in
    let thousands : n / 100 / 10 ≡ n / 1000 = omega arith in
    decimal_step n (omega arith) fits
    ∙ ap (λ v. v ++ (48 + n % 10) ∷ []) (decimal_step (n / 10) (omega arith) (omega arith) ∙ ap
    (λ k. decimal k ++ (48 + n / 10 % 10) ∷ []) hundreds ∙ ap (λ v. v ++ (48 + n / 10 % 10) ∷ [])
    (decimal_step (n / 100) (omega arith) (omega arith) ∙ ap (λ k. decimal k ++ (48 + n / 100 % 10) ∷ []) thousands))
    ∙ ap (λ v. v ++ (48 + n % 10) ∷ []) (append_assoc (decimal (n / 1000)) ((48 + n / 100 % 10) ∷ []) ((48 + n / 10 % 10) ∷ []))
    ∙ append_assoc (decimal (n / 1000)) ((48 + n / 100 % 10) ∷ (48 + n / 10 % 10) ∷ []) ((48 + n % 10) ∷ [])
