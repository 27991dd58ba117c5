use Rattle.std.proofs.Common.{◌≡◌, map, take}
use Rattle.dm_tables.specs.Rows.{row_entry}
use Rattle.dm_tables.proofs.base.rule_of_rows.Given as goal

abbrev pub invariant-loop-row : goal.invariant-loop-row
invariant-loop-row l = l.entries.items ≡ map row_entry (take l.row-index l.rows)
