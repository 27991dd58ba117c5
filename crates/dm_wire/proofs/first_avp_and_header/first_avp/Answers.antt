-- An AVP is taken only where the octets at the front spell it.
use Rattle.dm_wire.proofs.Numbers.{fit-octets}
use Rattle.dm_wire.proofs.Members.{extent_spelled}
use Rattle.dm_wire.proofs.first_avp_and_header.first_avp.Goals as goal

pub returns-clause-found : goal.returns-clause-found
returns-clause-found c =
    let s = c.args.octets.now in
    rw c.avp_of_extent.ensures
    (extent_spelled c.in_ok-extent.extent s (fit-octets s c.type_inv.octets) c.in_ok-extent.ensures.found)
