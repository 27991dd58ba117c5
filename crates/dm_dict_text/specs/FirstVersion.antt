-- A text of version 1, which has no vendors and no lists of values.
use Rattle.std.specs.Prelude.{◌≡◌, ℕ, true, List, ◌++◌, codes, if◌then◌else◌}
use Rattle.std.specs.List.{flat_map}
use Rattle.dm_tables.specs.declared.def.AvpDef.{AvpDef}
use Rattle.dm_tables.specs.Definitions.{Definitions}
use Rattle.dm_tables.specs.Sound.{is_grouped}
use Rattle.dm_dict_text.specs.Printed.{type_name, spaced, spaced_number, spaced_option, line_end}
use Rattle.dm_dict_text.specs.Printed.{group_line, command_line, is_first_version, printed}

-- @ NAME CODE TYPE VENDOR
abbrev pub first_plain_line : AvpDef → List ℕ
first_plain_line d = codes "@ " ++ d.name ++ spaced_number d.code ++ spaced (type_name d.kind) ++
    spaced_option d.vendor ++ line_end

abbrev pub first_avp_line : AvpDef → List ℕ
first_avp_line d = if is_grouped d.kind then group_line d else first_plain_line d

-- the AVPs, then the commands
abbrev pub first_printed : Definitions → List ℕ
first_printed d = flat_map first_avp_line d.avps ++ flat_map command_line d.commands

-- definitions without vendors and lists are printed as a text of version 1
abbrev pub PrintsFirstVersion : Type 0
PrintsFirstVersion = (d : Definitions) → is_first_version d ≡ true → printed d ≡ first_printed d
