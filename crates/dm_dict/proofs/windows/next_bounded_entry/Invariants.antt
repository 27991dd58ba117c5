use Rattle.std.proofs.Common.{◌≡◌, ◌≤◌, ◌-◌, List, length, drop, flat_map}
use Rattle.dm_wire.specs.declared.avp.Avp.{Avp}
use Rattle.dm_tables.specs.declared.def.AvpDef.{AvpDef}
use Rattle.dm_dict.specs.Faults.{entry_faults, first}
use Rattle.dm_dict.proofs.windows.next_bounded_entry.Given as goal

abbrev pub invariant-loop-at : goal.invariant-loop-at
invariant-loop-at l =
    (l.from ≤ l.at)
    × ((avps : List AvpDef) (all : List Avp) → first (flat_map (entry_faults avps l.rule all) (drop l.from l.rule)) ≡
    first (flat_map (entry_faults avps l.rule all) (drop l.at l.rule)))

abbrev pub decreases-loop-at : goal.decreases-loop-at
decreases-loop-at l = length l.rule - l.at
