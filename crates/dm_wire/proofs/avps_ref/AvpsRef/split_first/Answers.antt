-- Where no AVP begins, none is listed.
use Rattle.dm_wire.proofs.Members.{nothing_listed}
use Rattle.dm_wire.proofs.avps_ref.AvpsRef.split_first.Goals as goal

pub returns-in_default-clause-parts : goal.returns-in_default-clause-parts
returns-in_default-clause-parts c = λ l h. nothing_listed c.in-Spelled.octets.now l c.in_default.ensures.none
    (rw c.in-Spelled.is at h)
