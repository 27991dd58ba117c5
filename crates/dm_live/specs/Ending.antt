-- The status with which the program ends, and its words for standard error.
use Rattle.std.specs.Prelude.{ℕ, List, [], Option, Some, None, Result, Ok, Err, codes}
use Rattle.dm_live.specs.declared.fault.LiveFault.{LiveFault}
use Rattle.dm_live.specs.declared.fault.LiveFault.TheVariants.{Read, Write, Memory}
use Rattle.dm_live.specs.Served.{Serves, StopsShort}

-- for a run that ended in this way, or for words where there are to be none
abbrev pub ending_of : {T : Type 0} → Option (Result T LiveFault) → ℕ × List ℕ
ending_of None = (2, codes "dmlive: usage")
ending_of (Some (Ok v)) = (0, [])
ending_of (Some (Err Read)) = (3, codes "dmlive: read")
ending_of (Some (Err Write)) = (3, codes "dmlive: write")
ending_of (Some (Err Memory)) = (3, codes "dmlive: memory")

-- what a writer got of a run over these octets that ended in this way
abbrev pub Ran : {T : Type 0} → Result T LiveFault → List ℕ → Option (List ℕ) → Option (List ℕ) → Type 0
Ran (Ok v) octets old new = Serves octets old new
Ran (Err fault) octets old new = StopsShort fault octets old new
