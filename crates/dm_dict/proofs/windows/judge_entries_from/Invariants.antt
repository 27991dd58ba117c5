use Rattle.std.proofs.Common.{◌≡◌, ◌-◌, List, length, drop, flat_map}
use Rattle.dm_wire.specs.declared.avp.Avp.{Avp}
use Rattle.dm_wire.specs.Borrowed.{Lists}
use Rattle.dm_dict.specs.Faults.{entry_faults, first}
use Rattle.dm_dict.proofs.windows.judge_entries_from.Given as goal

abbrev pub invariant-loop-from : goal.invariant-loop-from
invariant-loop-from l =
    (all : List Avp) → Lists l.list all
    → first (flat_map (entry_faults l.tables.avps.items l.rule.entries.now all) (drop l.start l.rule.entries.now)) ≡
    first (flat_map (entry_faults l.tables.avps.items l.rule.entries.now all) (drop l.from l.rule.entries.now))

abbrev pub decreases-loop-from : goal.decreases-loop-from
decreases-loop-from l = length l.rule.entries.now - l.from
