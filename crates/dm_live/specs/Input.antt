-- The input, line by line.
use Rattle.std.specs.Prelude.{◌≡◌, ◌≢◌, ℕ, Bool, true, false, Option, None, Some, OnSome, All}
use Rattle.std.specs.Prelude.{List, [], ◌∷◌, ◌++◌, length, if◌then◌else◌}
use Rattle.std.specs.Str.Lines.{lines}
use Rattle.std.specs.Io.{StopsAt, IsEmptyOrEndsWith}
use Rattle.std.specs.Io.KnownBytes.{Consumes, IsAtEnd}
use Rattle.std.specs.Io.BufRead.{ends_with_byte, strip_last}

-- octets up to a line's LF, without that and without a CR right before it
abbrev pub without_end : List ℕ → List ℕ
without_end octets = if ends_with_byte 10 octets then strip_last 13 (strip_last 10 octets) else strip_last 10 octets

-- a reader that has these octets left gives its next line, or has come to its end
abbrev pub GivesLine : List ℕ → Option (List ℕ) → Bool → List ℕ → Type 0
GivesLine octets None more line = ⊥
GivesLine octets (Some rest) true line = lines octets ≡ line ∷ lines rest
GivesLine octets (Some rest) false line = octets ≡ []

-- a reader gave a piece, which stands behind what was read before: with no LF, or the line is done, as the piece ends
-- with its first LF, or nothing was left
pub record TakesPiece (old new : Option (List ℕ)) (before after : List ℕ) (done : Bool) : Type 0 where
  pub piece : List ℕ
  pub whole : after ≡ before ++ piece
  pub given : Consumes old new piece
  pub more : done ≡ false → All (λ b. b ≢ 10) piece
  pub stops : StopsAt piece 10
  pub ends : done ≡ true → IsEmptyOrEndsWith piece 10
  pub out : done ≡ true → length piece ≡ 0 → OnSome old (IsAtEnd new)
