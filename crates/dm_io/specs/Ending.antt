-- What a program says when it ends.
use Rattle.std.specs.Prelude.{ℕ, List, [], ◌∷◌, ◌++◌}

-- the line for words on standard error: they and a line feed, or nothing where there are none
abbrev pub line_of : List ℕ → List ℕ
line_of [] = []
line_of (b ∷ words) = b ∷ words ++ 10 ∷ []
