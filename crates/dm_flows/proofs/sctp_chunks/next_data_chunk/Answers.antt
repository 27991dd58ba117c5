-- What is found behind the chunks that were passed is found in the whole.
use Rattle.std.proofs.Common.{refl}
use Rattle.dm_flows.proofs.SctpChunks.{behind_one, data_found, data_at_front, data_shorter, other_found}
use Rattle.dm_flows.proofs.sctp_chunks.next_data_chunk.Goals as goal

pub returns-then-size-gt-DATA_LEN-clause-found : goal.returns-then-size-gt-DATA_LEN-clause-found
returns-then-size-gt-DATA_LEN-clause-found c =
    let is = data_at_front c.chunks.rest.now _ c.in-Some.size refl c.in-Some.ensures.whole.1 c.in-Some.ensures.whole.0
    c.if-rest-eq-DATA.true c.if-size-gt-DATA_LEN.true in
    data_found _ c.chunks.rest.now _ _ c.chunks.invariant is c.read_data_chunk.ensures
    c.octets_after_chunk-behind.ensures

pub returns-then-size-gt-DATA_LEN-clause-shorter : goal.returns-then-size-gt-DATA_LEN-clause-shorter
returns-then-size-gt-DATA_LEN-clause-shorter c =
    data_shorter _ c.chunks.rest.now _ c.chunks.invariant c.in-Some.ensures.whole.0 c.octets_after_chunk-behind.ensures

pub chunks-preserved : goal.chunks-preserved
chunks-preserved c =
    behind_one _ c.chunks.rest.now _ c.chunks.invariant c.in-Some.ensures.whole.0
    (other_found c.chunks.rest.now _ c.in-Some.size refl c.in-Some.ensures.whole.1 c.else-rest-eq-DATA.either)
    c.octets_after_chunk-behind.ensures
