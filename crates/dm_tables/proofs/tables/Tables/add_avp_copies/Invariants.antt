use Rattle.std.proofs.Common.{◌≡◌, ◌++◌, drop, true}
use Rattle.dm_tables.specs.Sound.{each_after, is_sound_avp}
use Rattle.dm_tables.specs.Tables.{IsTables}
use Rattle.dm_tables.proofs.tables.Tables.add_avp_copies.Given as goal

abbrev pub invariant-loop-avp : goal.invariant-loop-avp
invariant-loop-avp l = record {
  tables : IsTables l.self;
  sound : each_after is_sound_avp l.self.avps.items (drop l.avp-index l.avps) ≡ true;
  avps : l.self.avps.items ++ drop l.avp-index l.avps ≡ l.fn.self.avps.items ++ l.avps;
  commands : l.self.commands.items ≡ l.fn.self.commands.items;
  vendors : l.self.vendors.items.items ≡ l.fn.self.vendors.items.items;
}
