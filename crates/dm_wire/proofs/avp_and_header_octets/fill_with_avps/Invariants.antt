-- What is written and what is left are the whole, and the room that is left is as long as that and zero.
use Rattle.std.proofs.Common.{length}
use Rattle.dm_wire.proofs.Written.{IsWrittenTo}
use Rattle.dm_wire.proofs.avp_and_header_octets.fill_with_avps.Given as goal

abbrev pub invariant-loop-left : goal.invariant-loop-left
invariant-loop-left l = IsWrittenTo l.room l.place l.left l.avps

abbrev pub decreases-loop-left : goal.decreases-loop-left
decreases-loop-left l = length l.left
