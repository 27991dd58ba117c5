-- What is left of the octets begins behind chunks.
use Rattle.std.proofs.Common.{length}
use Rattle.dm_flows.proofs.SctpChunks.{BehindChunks}
use Rattle.dm_flows.proofs.sctp_chunks.next_data_chunk.Given as goal

abbrev pub invariant-chunks : goal.invariant-chunks
invariant-chunks l = BehindChunks l.fn.octets l.rest

abbrev pub decreases-chunks : goal.decreases-chunks
decreases-chunks l = length l.rest
