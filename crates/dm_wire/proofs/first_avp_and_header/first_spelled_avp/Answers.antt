-- What the first AVP says of the members.
use Rattle.dm_wire.proofs.Numbers.{fit-octets}
use Rattle.dm_wire.proofs.Members.{found_member, none_member}
use Rattle.dm_wire.proofs.first_avp_and_header.first_spelled_avp.Goals as goal

pub returns-clause-found : goal.returns-clause-found
returns-clause-found c = found_member c.args.octets.now c.first_avp.result (fit-octets _ c.type_inv.octets)
    c.first_avp.ensures.within c.first_avp.ensures.found

pub returns-clause-none : goal.returns-clause-none
returns-clause-none c = none_member c.args.octets.now c.first_avp.result (fit-octets _ c.type_inv.octets)
    c.first_avp.ensures.none
