-- The ids so far, and those of the AVPs from here on.
use Rattle.std.proofs.Common.{◌≡◌, ◌++◌, List, []}
use Rattle.std.specs.List.{flat_map}
use Rattle.dm_wire.specs.declared.avp.Avp.{Avp}
use Rattle.dm_wire.specs.Borrowed.{Lists, size_of}
use Rattle.dm_base.specs.Kinds.{plain_ids}
use Rattle.dm_base.proofs.received_avps.push_application_ids_of_members.Given as goal

abbrev pub invariant-loop-avp : goal.invariant-loop-avp
invariant-loop-avp l =
    (all : List Avp) → Lists l.avps all
    → (m : List Avp) × Lists l.left m × (l.fn.ids.items ++ flat_map plain_ids all ≡ l.ids.items ++ flat_map plain_ids m) ×
    (flat_map plain_ids all ≡ [] → flat_map plain_ids m ≡ [])

abbrev pub decreases-loop-avp : goal.decreases-loop-avp
decreases-loop-avp l = size_of l.left
