-- Texts that are gathered one behind the other are gathered as one.
use Rattle.std.specs.Prelude.{ℕ, Option, List, [], ◌++◌}
use Rattle.std.specs.Io.KnownBytes.{Appends}
use Rattle.dm_view_lines.specs.declared.put_fault.PutFault.{PutFault}
use Rattle.dm_view_lines.specs.Turns.{Gathers, Leaves, WritesFront}

-- no text is gathered where nothing is done
abbrev pub GathersNothing : Type 0
GathersNothing = (c : Option (List ℕ)) (w : List ℕ) → Gathers c w c w []

abbrev pub GathersInTurn : Type 0
GathersInTurn =
    (a b c : Option (List ℕ)) (w v u s t : List ℕ) → Gathers a w b v s → Gathers b v c u t → Gathers a w c u (s ++ t)

-- what waits is written
abbrev pub GathersAndWrites : Type 0
GathersAndWrites =
    (a b c : Option (List ℕ)) (w v s : List ℕ) → Gathers a w b v s → Appends b c v → Gathers a w c [] s

-- a front of it is
abbrev pub GathersAndFails : Type 0
GathersAndFails =
    (a b c : Option (List ℕ)) (w v s : List ℕ) → Gathers a w b v s → WritesFront b c v → WritesFront a c (w ++ s)

-- a run that stops by a fault leaves no text where nothing was done
abbrev pub LeavesNothing : Type 0
LeavesNothing = (fault : PutFault) (c : Option (List ℕ)) (w : List ℕ) → Leaves fault c w c w []

abbrev pub LeavesInTurn : Type 0
LeavesInTurn =
    (fault : PutFault) (a b c : Option (List ℕ)) (w v u s t : List ℕ)
    → Gathers a w b v s → Leaves fault b v c u t → Leaves fault a w c u (s ++ t)
