-- What several readers give, one after the other.
use Rattle.std.specs.Prelude.{◌≡◌, ◌<◌, ℕ, Option, Some, None, option_map, Result, Ok, Err}
use Rattle.std.specs.Prelude.{List, [], ◌∷◌, length, take, drop}
use Rattle.std.specs.Fmt.{option_append}
use Rattle.std.specs.Io.KnownBytes.{Consumes, IsAtEnd, Keeps}
use Rattle.dm_view_lines.specs.declared.inputs.EndedReader.{EndedReader}
use Rattle.dm_view_lines.specs.declared.inputs.Inputs.{Inputs}
use Rattle.dm_view_lines.specs.LineEnds.{ended}

-- what comes behind this octet, with a last line feed, where that lacks one
abbrev pub ended_behind : ℕ → List ℕ → List ℕ
ended_behind last s = drop 1 (ended (last ∷ s))

-- what a reader gives whose end ends its last line, where that is known
abbrev pub ended_remaining : {R : Type 0} → (R → Option (List ℕ)) → EndedReader R → Option (List ℕ)
ended_remaining remaining r = option_map (ended_behind r.last) (remaining r.reader)

-- what readers give, one after the other
abbrev pub all_remaining : {R : Type 0} → (R → Option (List ℕ)) → List (EndedReader R) → Option (List ℕ)
all_remaining remaining [] = Some []
all_remaining remaining (r ∷ l) = option_append (ended_remaining remaining r) (all_remaining remaining l)

abbrev pub inputs_remaining : {R : Type 0} → (R → Option (List ℕ)) → Inputs R → Option (List ℕ)
inputs_remaining remaining inputs = all_remaining remaining inputs.readers.items

-- a read of the first reader; where that is at its end it isn't read any more
abbrev pub ReadsFirstReader : {E : Type 0} → Option (List ℕ) → Option (List ℕ) → Result (Option ℕ) E → List ℕ → Type 0
ReadsFirstReader old new (Ok (Some n)) buf = Consumes old new (take n buf) × (n ≡ 0 → 0 < length buf → IsAtEnd new)
ReadsFirstReader old new (Ok None) buf = Keeps old new
ReadsFirstReader old new (Err e) buf = Keeps old new
