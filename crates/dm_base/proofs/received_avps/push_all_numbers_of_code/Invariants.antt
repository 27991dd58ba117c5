-- The ids so far, and those that the AVPs tell from here on.
use Rattle.std.proofs.Common.{◌≡◌, ◌++◌, List, []}
use Rattle.dm_wire.specs.declared.avp.Avp.{Avp}
use Rattle.dm_wire.specs.Borrowed.{Lists, size_of}
use Rattle.dm_base.specs.Senders.{numbers_told}
use Rattle.dm_base.proofs.received_avps.push_all_numbers_of_code.Given as goal

abbrev pub invariant-loop-avp : goal.invariant-loop-avp
invariant-loop-avp l =
    (all : List Avp) → Lists l.avps all
    → (m : List Avp) × Lists l.left m ×
    (l.fn.ids.items ++ numbers_told l.code all ≡ l.ids.items ++ numbers_told l.code m) ×
    (numbers_told l.code all ≡ [] → numbers_told l.code m ≡ [])

abbrev pub decreases-loop-avp : goal.decreases-loop-avp
decreases-loop-avp l = size_of l.left
