use Rattle.std.proofs.Common.{◌≡◌, ◌++◌, map, take, drop, true}
use Rattle.dm_tables.specs.Rows.{row_avp}
use Rattle.dm_tables.specs.Sound.{each_after, is_sound_avp}
use Rattle.dm_tables.specs.Tables.{IsTables}
use Rattle.dm_tables.proofs.base.add_avp_rows.Given as goal

abbrev pub invariant-loop-row : goal.invariant-loop-row
invariant-loop-row l = record {
  tables : IsTables l.tables;
  sound : each_after is_sound_avp l.tables.avps.items (map row_avp (drop l.row-index l.rows)) ≡ true;
  avps : l.tables.avps.items ≡ l.fn.tables.avps.items ++ map row_avp (take l.row-index l.rows);
  commands : l.tables.commands.items ≡ l.fn.tables.commands.items;
  vendors : l.tables.vendors.items.items ≡ l.fn.tables.vendors.items.items;
}
