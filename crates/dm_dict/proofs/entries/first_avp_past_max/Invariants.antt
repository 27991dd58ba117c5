use Rattle.std.proofs.Common.{◌≡◌, List, slice_index_or, slice_get}
use Rattle.dm_wire.specs.declared.avp.Avp.{Avp}
use Rattle.dm_tables.specs.declared.rule.Entry.{Entry}
use Rattle.dm_wire.specs.Borrowed.{Lists, size_of}
use Rattle.dm_dict.specs.Rules.{counted_avps}
use Rattle.dm_dict.proofs.entries.first_avp_past_max.Given as goal

abbrev pub invariant-loop-avp : goal.invariant-loop-avp
invariant-loop-avp l =
    (all : List Avp) (e : Entry) → Lists l.list all → e ≡ slice_index_or l.rule.entries.now l.at e
    → (m : List Avp) × Lists l.left m
    × (slice_get (counted_avps l.tables.avps.items l.rule.entries.now all e) l.max ≡
    slice_get (counted_avps l.tables.avps.items l.rule.entries.now m e) l.before)

abbrev pub decreases-loop-avp : goal.decreases-loop-avp
decreases-loop-avp l = size_of l.left
