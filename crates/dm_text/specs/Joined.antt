-- Lines one behind the other.
use Rattle.std.specs.Prelude.{◌≡◌, ◌≤◌, ◌+◌, ℕ, List, ◌++◌, length}
use Rattle.std.specs.Str.Lines.{lines}
use Rattle.dm_text.specs.Lines.{content}

-- the lines that stand for something are those of the first lines, and then those of the others
abbrev pub ContentIsJoined : Type 0
ContentIsJoined = (s t : List (List ℕ)) → content (s ++ t) ≡ content s ++ content t

-- there are at most as many lines as octets, and one
abbrev pub LinesAreFew : Type 0
LinesAreFew = (s : List ℕ) → length (lines s) ≤ length s + 1
