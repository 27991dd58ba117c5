-- How a run stops, by what else is known of its text.
use Rattle.std.proofs.Common.{ℕ, Bool, List, Option, ◌++◌}
use Rattle.dm_view_lines.specs.declared.lines_fault.LinesFault.{LinesFault}
use Rattle.dm_view_lines.specs.declared.lines_fault.LinesFault.TheVariants.{Memory, Write}
use Rattle.dm_view_lines.specs.Run.{EndsBy}

-- a front of a text of the one kind is a front of one of the other
pub ends-by : (Texts Others : List ℕ → Bool → Type 0) (good : Bool) (before after : Option (List ℕ)) (fault : LinesFault)
    → ((text : List ℕ) (fine : Bool) → Texts text fine → Others text good)
    → EndsBy Texts before after fault → EndsBy Others before after fault
ends-by Texts Others good before after Memory is h = h
ends-by Texts Others good before after (Write error) is h = (h.0, h.1, good, is (h.0 ++ h.1) h.2 h.3, h.4)
