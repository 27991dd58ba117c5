use Rattle.std.proofs.Common.{◌≡◌, List, length}
use Rattle.dm_wire.specs.declared.avp.Avp.{Avp}
use Rattle.dm_wire.specs.Borrowed.{Lists, size_of}
use Rattle.dm_dict.specs.Counters.{IsCountedBut}
use Rattle.dm_dict.proofs.counts.count_avps_at_entries_from.Given as goal

abbrev pub invariant-loop-avp : goal.invariant-loop-avp
invariant-loop-avp l =
    (length l.counts ≡ length l.fn.counts) × ((all : List Avp) → Lists l.list all →
    (m : List Avp) × Lists l.left m × IsCountedBut l.tables.avps.items l.rule.entries.now all m l.from l.counts)

abbrev pub decreases-loop-avp : goal.decreases-loop-avp
decreases-loop-avp l = size_of l.left
