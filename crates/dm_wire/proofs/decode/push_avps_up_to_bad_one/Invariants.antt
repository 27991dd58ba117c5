-- The AVPs so far are those in front of what is left.
use Rattle.std.proofs.Common.{◌≡◌, ◌++◌, length, option_map}
use Rattle.dm_wire.specs.Members.{members}
use Rattle.dm_wire.proofs.decode.push_avps_up_to_bad_one.Given as goal

abbrev pub invariant-loop-extent : goal.invariant-loop-extent
invariant-loop-extent l = members l.octets ≡ option_map (λ k. l.avps.items ++ k) (members l.left)

abbrev pub decreases-loop-extent : goal.decreases-loop-extent
decreases-loop-extent l = length l.left
