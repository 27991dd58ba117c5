use Rattle.std.proofs.Common.{◌≡◌, ◌++◌, List, [], drop, flat_map}
use Rattle.dm_wire.specs.declared.avp.Avp.{Avp}
use Rattle.dm_dict.specs.Faults.{entry_faults}
use Rattle.dm_dict.specs.Listing.{all_told}
use Rattle.dm_dict.specs.Tallies.{AreTallied}
use Rattle.dm_dict.proofs.entry_faults.push_tallied_faults.Given as goal

abbrev pub invariant-loop-at : goal.invariant-loop-at
invariant-loop-at l =
    (all : List Avp) → AreTallied l.tables.avps.items l.rule all [] l.tallies
    → all_told l.faults.items ++ flat_map (entry_faults l.tables.avps.items l.rule all) (drop l.at l.rule)
    ≡ all_told l.fn.faults.items ++ flat_map (entry_faults l.tables.avps.items l.rule all) l.rule
