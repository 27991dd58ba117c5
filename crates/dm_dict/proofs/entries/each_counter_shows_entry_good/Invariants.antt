use Rattle.std.proofs.Common.{◌≡◌, List, drop, flat_map}
use Rattle.dm_wire.specs.declared.avp.Avp.{Avp}
use Rattle.dm_tables.specs.declared.def.AvpDef.{AvpDef}
use Rattle.dm_dict.specs.Counters.{IsCounted}
use Rattle.dm_dict.specs.Faults.{entry_faults, first}
use Rattle.dm_dict.proofs.entries.each_counter_shows_entry_good.Given as goal

abbrev pub invariant-loop-at : goal.invariant-loop-at
invariant-loop-at l =
    (avps : List AvpDef) (all : List Avp) → IsCounted avps l.rule all 0 l.counts
    → first (flat_map (entry_faults avps l.rule all) l.rule) ≡
    first (flat_map (entry_faults avps l.rule all) (drop l.at l.rule))
