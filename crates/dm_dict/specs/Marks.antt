-- Marks: which lowest bits the AVP Codes of definitions have, so that most codes of no definition are known at once.
use Rattle.std.specs.Prelude.{◌≡◌, ◌+◌, ◌%◌, ℕ, nat_eq, min, if◌then◌else◌, Option, None, List, slice_index}
use Rattle.std.specs.List.{position_from}
use Rattle.dm_tables.specs.declared.def.AvpDef.{AvpDef}
use Rattle.dm_tables.specs.Definitions.{is_coded}
use Rattle.dm_dict.specs.Limits.{last_marked, mark_slots}

-- the mark behind one definition more that has these bits, at a place: the first one stays
abbrev pub kept_mark : ℕ → ℕ → ℕ
kept_mark mark place = if nat_eq mark 0 then min place last_marked + 1 else mark

-- where the lowest bits of a code aren't marked no definition has it
abbrev pub AreMarked : List AvpDef → List ℕ → Type 0
AreMarked avps marks = (code : ℕ) (vendor : Option ℕ) → slice_index marks (code % mark_slots) ≡ 0
    → position_from (is_coded code vendor) 0 avps ≡ None
