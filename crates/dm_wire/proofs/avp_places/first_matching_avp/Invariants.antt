-- None of those in front is of the code and vendor.
use Rattle.std.proofs.Common.{◌≡◌, List, drop}
use Rattle.std.specs.List.{find}
use Rattle.dm_wire.specs.declared.avp.Avp.{Avp}
use Rattle.dm_wire.specs.Finding.{is_of}
use Rattle.dm_wire.specs.Held.{ArePlaces}
use Rattle.dm_wire.proofs.avp_places.first_matching_avp.Given as goal

abbrev pub invariant-loop-place : goal.invariant-loop-place
invariant-loop-place l = (avps : List Avp) → ArePlaces l.places avps l.octets →
    find (is_of l.code l.vendor) avps ≡ find (is_of l.code l.vendor) (drop l.place-index avps)
