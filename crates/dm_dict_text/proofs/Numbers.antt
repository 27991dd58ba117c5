-- Numbers of digits only grow.
use Rattle.std.proofs.Common.{◌≡◌, ◌≤◌, ◌<◌, ℕ, ◌+◌, ◌-◌, ◌*◌, List, [], ◌∷◌, drop, length, get_or, None, refl, arith, add-one}
use Rattle.std.proofs.lemmas.Bool.{lt-ltb}
use Rattle.std.proofs.Math.Seq.{drop-cons}
use Rattle.dm_dict_text.specs.Meaning.{number_behind, number_of}
use Rattle.dm_dict_text.specs.Numbers.{within}

after_ge : (n : ℕ) (s : List ℕ) → n ≤ number_behind n s
after_ge n [] = omega arith
after_ge n (c ∷ s) = let rest = after_ge (n * 10 + (c - 48)) s in omega arith

pub over : (limit n : ℕ) (digits : List ℕ) (i d v : ℕ) → i < length digits → v ≡ get_or digits i d - 48
    → limit < n * 10 + v
    → number_behind n (drop i digits) ≡ number_of digits → None ≡ within limit (number_of digits)
over limit n digits i d v h e above value =
    let here : drop i digits ≡ get_or digits i d ∷ drop (i + 1) digits = rw (add-one i) (drop-cons digits i d h) in
    let more : number_behind (n * 10 + (get_or digits i d - 48))
    (drop (i + 1) digits) ≡ number_of digits = rw here at value in
    let grown = after_ge (n * 10 + (get_or digits i d - 48)) (drop (i + 1) digits) in
    let far : limit < number_of digits = omega arith in
    rw (lt-ltb limit (number_of digits) far) refl
