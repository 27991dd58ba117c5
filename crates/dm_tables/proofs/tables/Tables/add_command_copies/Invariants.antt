use Rattle.std.proofs.Common.{◌≡◌, ◌++◌, drop, true}
use Rattle.dm_tables.specs.Sound.{each_after, is_sound_command}
use Rattle.dm_tables.specs.Tables.{IsTables}
use Rattle.dm_tables.proofs.tables.Tables.add_command_copies.Given as goal

abbrev pub invariant-loop-command : goal.invariant-loop-command
invariant-loop-command l = record {
  tables : IsTables l.self;
  sound : each_after is_sound_command l.self.commands.items (drop l.command-index l.commands) ≡ true;
  commands : l.self.commands.items ++ drop l.command-index l.commands ≡ l.fn.self.commands.items ++ l.commands;
  avps : l.self.avps.items ≡ l.fn.self.avps.items;
  vendors : l.self.vendors.items.items ≡ l.fn.self.vendors.items.items;
}
