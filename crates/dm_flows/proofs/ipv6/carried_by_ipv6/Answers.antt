-- What extension headers lead to is what the packet carries.
use Rattle.dm_flows.proofs.Upper.{carries_upper, is_fragment, ends_fault}
use Rattle.dm_flows.proofs.ipv6.carried_by_ipv6.Goals as goal

pub returns-in-Ok-clause-carried : goal.returns-in-Ok-clause-carried
returns-in-Ok-clause-carried c =
    carries_upper c.args.octets.now c.captured_payload.result.now c.in-Ok.upper.payload.now c.in-Ok.upper.protocol _
    c.if-octets-lt-HEADER_LEN.false c.if-octets-ne6.false c.captured_payload.ensures c.in-Ok.ensures.upper
    c.carried_with_upper_layer.ensures

pub returns-in-Err-Fragmented-clause-fault : goal.returns-in-Err-Fragmented-clause-fault
returns-in-Err-Fragmented-clause-fault c =
    let said = rw c.in-Err-Fragmented.field-0-is at c.in-Err-Fragmented.ensures.astray in
    is_fragment c.args.octets.now c.captured_payload.result.now c.if-octets-lt-HEADER_LEN.false c.if-octets-ne6.false
    c.captured_payload.ensures said

pub returns-in-Err-Ends-clause-fault : goal.returns-in-Err-Ends-clause-fault
returns-in-Err-Ends-clause-fault c =
    let said = rw c.in-Err-Ends.field-0-is at c.in-Err-Ends.ensures.astray in
    ends_fault c.args.octets.now c.captured_payload.result.now c.cut_or_bad.result c.if-octets-lt-HEADER_LEN.false
    c.if-octets-ne6.false c.captured_payload.ensures said c.cut_or_bad.ensures
