use Rattle.std.proofs.Common.{◌≡◌, ◌++◌, drop, true}
use Rattle.dm_tables.specs.Sound.{each_after, is_sound_vendor}
use Rattle.dm_tables.specs.Tables.{IsTables}
use Rattle.dm_tables.proofs.tables.Tables.add_vendor_copies.Given as goal

abbrev pub invariant-loop-vendor : goal.invariant-loop-vendor
invariant-loop-vendor l = record {
  tables : IsTables l.self;
  sound : each_after is_sound_vendor l.self.vendors.items.items (drop l.vendor-index l.vendors) ≡ true;
  vendors : l.self.vendors.items.items ++ drop l.vendor-index l.vendors ≡ l.fn.self.vendors.items.items ++ l.vendors;
  avps : l.self.avps.items ≡ l.fn.self.avps.items;
  commands : l.self.commands.items ≡ l.fn.self.commands.items;
}
