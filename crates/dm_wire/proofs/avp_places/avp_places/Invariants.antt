-- The AVPs in front of the place have theirs.
use Rattle.std.proofs.Common.{◌≡◌, ◌≤◌, ◌-◌, Some, List, length}
use Rattle.dm_wire.specs.declared.avp.Avp.{Avp}
use Rattle.dm_wire.specs.Members.{members}
use Rattle.dm_wire.proofs.Placing.{ArePlacesSoFar}
use Rattle.dm_wire.proofs.avp_places.avp_places.Given as goal

abbrev pub invariant-loop-extent : goal.invariant-loop-extent
invariant-loop-extent l =
    (l.place ≤ length l.octets)
    × ((avps : List Avp) → members l.octets ≡ Some avps → ArePlacesSoFar l.places.items avps l.octets l.place)

abbrev pub decreases-loop-extent : goal.decreases-loop-extent
decreases-loop-extent l = length l.octets - l.place
