-- A list that is spelled is read, or memory ran out; a bad AVP is answered.
use Rattle.std.proofs.Common.{Err, ap}
use Rattle.dm_wire.proofs.Lists.{one_list, no_bad_in_list}
use Rattle.dm_wire.proofs.Reading.{list_memory, bad_told}
use Rattle.dm_wire.proofs.decode.decode_avps.Goals as goal

pub returns-in-Some-clause-only : goal.returns-in-Some-clause-only
returns-in-Some-clause-only c = λ l sp. one_list _ l c.args.octets.now c.in-Some.ensures sp

pub returns-in-Some-clause-refuses : goal.returns-in-Some-clause-refuses
returns-in-Some-clause-refuses c = λ o bad. absurd (no_bad_in_list 0 _ c.args.octets.now o c.in-Some.ensures bad)

pub returns-in-None-clause-only : goal.returns-in-None-clause-only
returns-in-None-clause-only c =
    λ l sp. list_memory c.avp_list_fault_or_no_memory.result c.args.octets.now l c.avp_list_fault_or_no_memory.ensures sp

pub returns-in-None-clause-refuses : goal.returns-in-None-clause-refuses
returns-in-None-clause-refuses c =
    λ o bad. ap Err (bad_told c.avp_list_fault_or_no_memory.result c.args.octets.now o c.avp_list_fault_or_no_memory.ensures bad)
