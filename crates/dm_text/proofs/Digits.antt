-- Octets as hexadecimal digits, piece by piece.
use Rattle.std.proofs.Common.{◌≡◌, ℕ, List, [], ◌∷◌, ◌++◌, refl, sym, ap, ◌∙◌, append_assoc, append-nil, arith}
use Rattle.std.proofs.Common.{length, take, drop, nat_eq, true}
use Rattle.std.proofs.lemmas.Bool.{eqb-true}
use Rattle.std.proofs.lemmas.List.{take-append-drop}
use Rattle.hex.specs.Hex.{encode_with}

pub encode_with-append : (t s r : List ℕ) → encode_with t (s ++ r) ≡ encode_with t s ++ encode_with t r
unfolding encode_with
encode_with-append t [] r = refl
encode_with-append t (b ∷ s) r = rw (encode_with-append t s r) refl

pub encode_with-nil : (t : List ℕ) → encode_with t [] ≡ []
unfolding encode_with
encode_with-nil t = refl

-- some more octets are passed
pub more_passed : (all passed rest some more : List ℕ) (n : ℕ)
    → all ≡ passed ++ rest → some ≡ take n rest → more ≡ drop n rest
    → all ≡ (passed ++ some) ++ more
more_passed all passed rest some more n h e f =
    h ∙ ap (λ v. passed ++ v) (sym (take-append-drop n rest))
    ∙ rw (e, f) (sym (append_assoc passed (take n rest) (drop n rest)))

-- what is passed is all
pub all_passed : (all passed rest : List ℕ) → all ≡ passed ++ rest → nat_eq (length rest) 0 ≡ true → all ≡ passed
all_passed all passed [] h none = h ∙ append-nil passed
all_passed all passed (b ∷ rest) h none = absurd (let zero = eqb-true (length (b ∷ rest)) 0 none in omega arith)
