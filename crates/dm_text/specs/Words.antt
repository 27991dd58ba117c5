-- The words of a line.
use Rattle.std.specs.Prelude.{◌==◌, ℕ, not, length, filter, List}
use Rattle.std.specs.List.{slice_split}

-- the parts of the line between spaces, however many these are
abbrev pub words : List ℕ → List (List ℕ)
words line = filter (λ word. not (length word == 0)) (slice_split (λ b. b == 32) line)
