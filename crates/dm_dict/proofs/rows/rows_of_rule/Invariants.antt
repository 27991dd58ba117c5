use Rattle.std.proofs.Common.{◌≡◌, take}
use Rattle.dm_dict.specs.Links.{rule_rows}
use Rattle.dm_dict.proofs.rows.rows_of_rule.Given as goal

abbrev pub invariant-loop-entry : goal.invariant-loop-entry
invariant-loop-entry l = l.rows.items ≡ rule_rows l.tables.avps.items (take l.entry-index l.entries)
