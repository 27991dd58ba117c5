use Rattle.std.proofs.Common.{◌≡◌, map, drop}
use Rattle.dm_dict_text.specs.Meaning.{type_named}
use Rattle.dm_dict_text.specs.Kinds.{kind_row, kind_among}
use Rattle.dm_dict_text.proofs.kind.ungrouped_type_named.Given as goal

-- none of the rows before has the name
abbrev pub invariant-loop-row : goal.invariant-loop-row
invariant-loop-row l = type_named l.name ≡ kind_among (map kind_row (drop l.row-index l.row-items)) l.name
