-- A line written in two parts, of which the second may fail in the midst.
use Rattle.std.proofs.Common.{◌≡◌, ℕ, false, length, List, [], ◌∷◌, ◌++◌, Option, Result, Ok, Err, OnOk, OnErr, refl}
use Rattle.std.proofs.Common.{sym, ap, ◌∙◌, append_assoc, append-nil}
use Rattle.std.specs.Bool.{◌==◌}
use Rattle.std.proofs.lemmas.Bool.{false≢true}
use Rattle.std.specs.Io.KnownBytes.{Appends}
use Rattle.std.proofs.KnownBytes.{Appends-trans}
use Rattle.dm_io.specs.Ending.{line_of}

pub line_of_words : (words : List ℕ) → false ≡ (length words == 0) → line_of words ≡ words ++ 10 ∷ []
line_of_words [] some = absurd (false≢true some)
line_of_words (b ∷ words) some = refl

-- behind the words a line feed is written, or nothing of it
pub front_of_line : {T E : Type 0} (a b c : Option (List ℕ)) (words : List ℕ) (r : Result T E) → Appends a b words
    → OnOk r (Appends b c (10 ∷ []))
    → OnErr r ((front rest : List ℕ) × (10 ∷ [] ≡ front ++ rest) × Appends b c front)
    → (front rest : List ℕ) × (words ++ 10 ∷ [] ≡ front ++ rest) × Appends a c front
front_of_line a b c words (Ok v) first whole part =
    (words ++ 10 ∷ [], [], sym (append-nil _), Appends-trans a b c _ _ first whole)
front_of_line a b c words (Err e) first whole part = (
  words ++ part.0,
  part.1,
  ap (λ s. words ++ s) part.2 ∙ sym (append_assoc words part.0 part.1),
  Appends-trans a b c _ _ first part.3,
)
