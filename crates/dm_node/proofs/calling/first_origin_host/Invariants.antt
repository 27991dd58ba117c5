-- The AVPs from here on decide.
use Rattle.std.proofs.Common.{◌≡◌, List}
use Rattle.dm_wire.specs.declared.avp.Avp.{Avp}
use Rattle.dm_wire.specs.Borrowed.{Lists, size_of}
use Rattle.dm_node.specs.Calling.{calling_host}
use Rattle.dm_node.proofs.calling.first_origin_host.Given as goal

abbrev pub invariant-loop-avp : goal.invariant-loop-avp
invariant-loop-avp l =
    (all : List Avp) → Lists l.avps all → (m : List Avp) × Lists l.left m × (calling_host all ≡ calling_host m)

abbrev pub decreases-loop-avp : goal.decreases-loop-avp
decreases-loop-avp l = size_of l.left
