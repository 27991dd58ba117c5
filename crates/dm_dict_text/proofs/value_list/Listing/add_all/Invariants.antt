use Rattle.std.proofs.Common.{map, drop, []}
use Rattle.dm_grammar.specs.Views.{view_value}
use Rattle.dm_dict_text.specs.Listing.{IsListing}
use Rattle.dm_dict_text.specs.Faults.{listed_value_faults, with_value}
use Rattle.dm_dict_text.proofs.Along.{Along}
use Rattle.dm_dict_text.proofs.value_list.Listing.add_all.Given as goal

abbrev pub invariant-loop-item : goal.invariant-loop-item
invariant-loop-item l = record {
  listing : IsListing l.self;
  along : Along listed_value_faults with_value [] (map view_value l.items) l.self.values.items
      (map view_value (drop l.item-index l.items));
}
