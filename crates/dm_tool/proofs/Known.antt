-- What several reads in a row do to the octets that are known.
use Rattle.std.proofs.Common.{◌≡◌, ◌≤◌, ℕ, List, ◌++◌, length, take, sym, ◌∙◌, ap, subst, Option}
use Rattle.std.proofs.lemmas.List.{take-append-le}
use Rattle.std.specs.Io.KnownBytes.{Consumes}
use Rattle.std.proofs.KnownBytes.{Consumes-trans}

-- a read of n more octets, put behind those that were read before
pub Consumes-more : (a b c : Option (List ℕ)) (input buf more new : List ℕ) (n : ℕ) → n ≤ length buf
    → Consumes a b input → Consumes b c (take n buf) → new ≡ input ++ take n (buf ++ more)
    → Consumes a c new
Consumes-more a b c input buf more new n fits h k is =
    let P : List ℕ → Type 0 = λ v. Consumes a c v in
    subst P (sym (is ∙ ap (λ v. input ++ v) (take-append-le n buf more fits)))
    (Consumes-trans a b c input (take n buf) h k)
