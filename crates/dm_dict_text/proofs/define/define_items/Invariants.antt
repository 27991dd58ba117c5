use Rattle.std.proofs.Common.{◌≡◌, true, map, drop}
use Rattle.std.specs.List.{list_all}
use Rattle.dm_grammar.specs.Views.{view_item}
use Rattle.dm_tables.specs.Guesses.{AreGuessed}
use Rattle.dm_tables.specs.Tables.{IsTables}
use Rattle.dm_dict_text.specs.Making.{making}
use Rattle.dm_dict_text.specs.Worded.{is_worded}
use Rattle.dm_dict_text.specs.Meaning.{with_item}
use Rattle.dm_dict_text.specs.Faults.{item_faults}
use Rattle.dm_dict_text.proofs.Along.{Along}
use Rattle.dm_dict_text.proofs.define.define_items.Given as goal

abbrev pub invariant-loop-item : goal.invariant-loop-item
invariant-loop-item l = record {
  tables : IsTables l.tables;
  guesses : AreGuessed l.tables.avps.items l.guesses.places.items;
  worded : list_all is_worded (map view_item (drop l.item-index l.items)) ≡ true;
  along : Along item_faults with_item (making l.fn.tables l.fn.strays) (map view_item l.items)
      (making l.tables l.strays) (map view_item (drop l.item-index l.items));
}
