-- The dictionary and the messages of an input, between which stands a line `%%`.
use Rattle.std.specs.Prelude.{ℕ, List, [], ◌∷◌, Bool, false, ◌==◌, nat_eq, if◌then◌else◌, codes}
use Rattle.std.specs.List.{concat, onto_first}
use Rattle.std.specs.Str.Lines.{lines}
use Rattle.std.specs.Cmp.Lexicographic.{pointwise}
use Rattle.dm_text.specs.Lines.{trimmed}

-- the lines of an input, each with the LF that ends it
abbrev pub whole_lines : List ℕ → List (List ℕ)
whole_lines [] = []
whole_lines (b ∷ s) = if b == 10 then (b ∷ []) ∷ whole_lines s else onto_first b (whole_lines s)

-- the line is `%%`, spaces at its ends aside
abbrev pub divides : List (List ℕ) → Bool
divides [] = false
divides (line ∷ lines) = pointwise nat_eq (trimmed line) (codes "%%")

abbrev pub is_divider : List ℕ → Bool
is_divider line = divides (lines line)

-- the lines before the first divider, all where there is none
abbrev pub before_divider : List (List ℕ) → List (List ℕ)
before_divider [] = []
before_divider (line ∷ lines) = if is_divider line then [] else line ∷ before_divider lines

-- the lines behind the first divider, none where there is none
abbrev pub behind_divider : List (List ℕ) → List (List ℕ)
behind_divider [] = []
behind_divider (line ∷ lines) = if is_divider line then lines else behind_divider lines

-- the octets of the dictionary, with the LF that ends its last line
abbrev pub dictionary_part : List ℕ → List ℕ
dictionary_part input = concat (before_divider (whole_lines input))

-- the octets of the lines behind it
abbrev pub message_part : List ℕ → List ℕ
message_part input = concat (behind_divider (whole_lines input))
