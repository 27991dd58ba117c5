-- The lines of an input that stand for something.
use Rattle.std.specs.Prelude.{ℕ, List, [], ◌∷◌, Bool, true, ◌==◌, if◌then◌else◌, reverse, map, filter, not}
use Rattle.std.specs.Str.Lines.{lines}

-- the octets from the first that is no space on
abbrev pub drop_spaces : List ℕ → List ℕ
drop_spaces [] = []
drop_spaces (b ∷ s) = if b == 32 then drop_spaces s else b ∷ s

-- the line without the spaces at its ends
abbrev pub trimmed : List ℕ → List ℕ
trimmed s = reverse (drop_spaces (reverse (drop_spaces s)))

-- a trimmed line that is empty or begins with `#`
abbrev pub is_skipped : List ℕ → Bool
is_skipped [] = true
is_skipped (b ∷ s) = b == 35

-- those of the lines that stand for something, trimmed
abbrev pub content : List (List ℕ) → List (List ℕ)
content l = filter (λ s. not (is_skipped s)) (map trimmed l)

-- the lines of the input that stand for something, trimmed
abbrev pub content_lines : List ℕ → List (List ℕ)
content_lines input = content (lines input)
