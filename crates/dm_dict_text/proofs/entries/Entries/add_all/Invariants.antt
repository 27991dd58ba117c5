use Rattle.std.proofs.Common.{map, drop, []}
use Rattle.dm_grammar.specs.Views.{view_entry}
use Rattle.dm_dict_text.specs.Entries.{IsNoted}
use Rattle.dm_dict_text.specs.Faults.{rule_entry_faults, with_entry}
use Rattle.dm_dict_text.proofs.Along.{Along}
use Rattle.dm_dict_text.proofs.entries.Entries.add_all.Given as goal

abbrev pub invariant-loop-item : goal.invariant-loop-item
invariant-loop-item l = record {
  noted : IsNoted l.self;
  along : Along rule_entry_faults with_entry [] (map view_entry l.items) l.self.entries.items
      (map view_entry (drop l.item-index l.items));
}
