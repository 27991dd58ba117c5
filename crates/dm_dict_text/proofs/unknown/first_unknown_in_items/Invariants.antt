use Rattle.std.proofs.Common.{◌≡◌, ◌≤◌, map, drop, take, fold, length}
use Rattle.dm_grammar.specs.Views.{view_item}
use Rattle.dm_dict_text.specs.Making.{making}
use Rattle.dm_dict_text.specs.Faults.{first_dict_fault, vendors_with, items_unknown}
use Rattle.dm_dict_text.proofs.unknown.first_unknown_in_items.Given as goal

abbrev pub invariant-loop-item : goal.invariant-loop-item
invariant-loop-item l = record {
  within : l.seen ≤ length l.tables.vendors.items.items;
  theirs : fold vendors_with (take l.seen l.tables.vendors.items.items) (map view_item (drop l.item-index l.items)) ≡
      l.tables.vendors.items.items;
  left : first_dict_fault
      (items_unknown (making l.tables l.strays) (take l.first l.tables.vendors.items.items) (map view_item l.items)) ≡
      first_dict_fault (items_unknown (making l.tables l.strays) (take l.seen l.tables.vendors.items.items)
      (map view_item (drop l.item-index l.items)));
}
