use Rattle.std.proofs.Common.{◌≡◌, ◌++◌, map, take, drop, true}
use Rattle.dm_tables.specs.Rows.{row_command}
use Rattle.dm_tables.specs.Sound.{each_after, is_sound_command}
use Rattle.dm_tables.specs.Tables.{IsTables}
use Rattle.dm_tables.proofs.base.add_command_rows.Given as goal

abbrev pub invariant-loop-row : goal.invariant-loop-row
invariant-loop-row l = record {
  tables : IsTables l.tables;
  sound : each_after is_sound_command l.tables.commands.items (map row_command (drop l.row-index l.rows)) ≡ true;
  commands : l.tables.commands.items ≡ l.fn.tables.commands.items ++ map row_command (take l.row-index l.rows);
  avps : l.tables.avps.items ≡ l.fn.tables.avps.items;
  vendors : l.tables.vendors.items.items ≡ l.fn.tables.vendors.items.items;
}
