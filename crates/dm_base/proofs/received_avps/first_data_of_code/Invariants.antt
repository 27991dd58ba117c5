-- The AVPs from here on decide.
use Rattle.std.proofs.Common.{◌≡◌, List}
use Rattle.dm_wire.specs.declared.avp.Avp.{Avp}
use Rattle.dm_wire.specs.Borrowed.{Lists, size_of}
use Rattle.dm_base.specs.Kinds.{data_at}
use Rattle.dm_base.proofs.received_avps.first_data_of_code.Given as goal

abbrev pub invariant-loop-avp : goal.invariant-loop-avp
invariant-loop-avp l =
    (all : List Avp) → Lists l.avps all → (m : List Avp) × Lists l.left m × (data_at l.code all ≡ data_at l.code m)

abbrev pub decreases-loop-avp : goal.decreases-loop-avp
decreases-loop-avp l = size_of l.left
