-- How many lines are good and bad.
use Rattle.std.specs.Prelude.{ℕ, ◌+◌, Bool, true, false, Option, Some, None, List, [], ◌∷◌, ◌++◌, codes}
use Rattle.std.specs.Fmt.{decimal}
use Rattle.dm_view_lines.specs.declared.tally.Tally.{Tally}

abbrev pub no_lines : Tally
no_lines = record { good = 0; bad = 0 }

-- of one line, which is good, bad, or says nothing
abbrev pub tally_of : Option Bool → Tally
tally_of None = no_lines
tally_of (Some true) = record { good = 1; bad = 0 }
tally_of (Some false) = record { good = 0; bad = 1 }

abbrev pub tallied : Tally → Tally → Tally
tallied t u = record { good = t.good + u.good; bad = t.bad + u.bad }

abbrev pub tally_line : Tally → List ℕ
tally_line t = decimal t.good ++ codes " good, " ++ decimal t.bad ++ codes " bad" ++ 10 ∷ []
