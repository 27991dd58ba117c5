use Rattle.std.proofs.Common.{◌≤◌, ◌+◌, length}
use Rattle.dm_dict_text.proofs.text_to_tables.avp_and_command_counts.Given as goal

abbrev pub invariant-loop-item : goal.invariant-loop-item
invariant-loop-item l = record {
  avps : l.avps ≤ length l.old.avps.items + l.item-index;
  commands : l.commands ≤ length l.old.commands.items + l.item-index;
}
