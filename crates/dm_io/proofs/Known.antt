-- What several writes in a row do to the octets that are known.
use Rattle.std.proofs.Common.{◌≡◌, ℕ, List, ◌++◌, take, drop, append_assoc, sym, ◌∙◌, ap, Option}
use Rattle.std.proofs.lemmas.List.{take-append-drop}
use Rattle.std.specs.Io.KnownBytes.{Appends}
use Rattle.std.proofs.KnownBytes.{Appends-trans}

-- a write of n more octets
pub Appends-more : (a b c : Option (List ℕ)) (text front rest more : List ℕ) (n : ℕ) → text ≡ front ++ rest
    → Appends a b front → Appends b c (take n rest) → more ≡ drop n rest
    → (front' : List ℕ) × (text ≡ front' ++ more) × Appends a c front'
Appends-more a b c text front rest more n whole h k is = (
  front ++ take n rest,
  whole ∙ ap (λ v. front ++ v) (sym (take-append-drop n rest)) ∙ sym (append_assoc front (take n rest) (drop n rest))
      ∙ ap (λ v. (front ++ take n rest) ++ v) (sym is),
  Appends-trans a b c front (take n rest) h k,
)
