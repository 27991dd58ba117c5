-- What the chunk at the front of a packet says of its association (RFC 9260, 3.3.2, 3.3.3, 3.3.7 and 3.3.13).
use Rattle.std.specs.Prelude.{◌≡◌, ◌⊎◌, ℕ, ◌≤◌, nat_eq, List, drop, slice_index}
use Rattle.byteorder.specs.Endian.{big_number}
use Rattle.dm_flows.specs.Sctps.{IsWholeChunk, chunk_length}
use Rattle.dm_association.specs.declared.front_chunk.Init.{Init}

-- it is an INIT or an INIT ACK, which stands alone in its packet (6.10); behind its header are the Initiate Tag, twelve
-- octets further on the Initial TSN
pub record SaysInit (s : List ℕ) (init : Init) : Type 0 where
  pub whole : IsWholeChunk s
  pub kind : (slice_index s 0 ≡ 1) ⊎ (slice_index s 0 ≡ 2)
  pub least : 20 ≤ chunk_length s
  pub says : init ≡ record {
    is_ack = nat_eq (slice_index s 0) 2;
    initiate_tag = big_number 4 (drop 4 s);
    initial_tsn = big_number 4 (drop 16 s);
  }

-- it is an ABORT or a SHUTDOWN COMPLETE
pub record EndsAssociation (s : List ℕ) : Type 0 where
  pub whole : IsWholeChunk s
  pub kind : (slice_index s 0 ≡ 6) ⊎ (slice_index s 0 ≡ 14)
