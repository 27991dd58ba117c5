-- How a run stops before its end.
use Rattle.std.specs.Prelude.{ℕ, Bool, List, ◌++◌, Option}
use Rattle.std.specs.Io.KnownBytes.{Appends, Keeps}
use Rattle.dm_view_lines.specs.declared.lines_fault.LinesFault.{LinesFault}
use Rattle.dm_view_lines.specs.declared.lines_fault.LinesFault.TheVariants.{Memory, Write}

-- for want of memory, and nothing is written; or by a failed write, and a front of the text is written
abbrev pub EndsBy : (List ℕ → Bool → Type 0) → Option (List ℕ) → Option (List ℕ) → LinesFault → Type 0
EndsBy Texts before after Memory = Keeps before after
EndsBy Texts before after (Write error) =
    (front back : List ℕ) × (good : Bool) × Texts (front ++ back) good × Appends before after front
