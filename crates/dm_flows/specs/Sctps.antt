-- SCTP packets, and the DATA chunks in them (RFC 9260, 3).
use Rattle.std.specs.Prelude.{◌≡◌, ◌≢◌, ◌⊎◌, ℕ, zero, suc, ◌+◌, ◌-◌, ◌*◌, ◌/◌, ◌%◌, ◌<◌, ◌≤◌, nat_eq, Bool, true, false}
use Rattle.std.specs.Prelude.{Option, None, Some, List, [], ◌∷◌, length, take, drop, slice_index}
use Rattle.byteorder.specs.Endian.{big_number}
use Rattle.dm_flows.specs.declared.address.Endpoint.{Endpoint}
use Rattle.dm_flows.specs.declared.network.Network.{Network}
use Rattle.dm_flows.specs.declared.passed.Passed.{Passed}
use Rattle.dm_flows.specs.declared.passed.Passed.TheVariants.{OtherProtocol, Cut, Bad}
use Rattle.dm_flows.specs.declared.sctp.SctpPacket.{SctpPacket}
use Rattle.dm_flows.specs.declared.sctp_chunks.DataChunk.{DataChunk}
use Rattle.dm_flows.specs.Ips.{CarriedOctets, CarriesOctets, HasIpFault}
use Rattle.dm_flows.specs.Links.{link_kind, HoldsIp, HasLinkFault}

-- a packet, wherever its octets lie: what stands behind the common header are chunks
pub record SeenSctp : Type 0 where
  pub source : Endpoint
  pub destination : Endpoint
  pub verification_tag : ℕ
  pub chunks : List ℕ

abbrev pub sctp_seen : SctpPacket → SeenSctp
sctp_seen packet = record {
  source = packet.source;
  destination = packet.destination;
  verification_tag = packet.verification_tag;
  chunks = packet.chunks.now;
}

-- RFC 9260, 3.1: ports, the Verification Tag and the checksum, which isn't looked at
abbrev pub sctp_packet : CarriedOctets → SeenSctp
sctp_packet carried = record {
  source = record { address = carried.source; port = big_number 2 carried.payload };
  destination = record { address = carried.destination; port = big_number 2 (drop 2 carried.payload) };
  verification_tag = big_number 4 (drop 4 carried.payload);
  chunks = drop 12 carried.payload;
}

-- an IP packet carries this packet
pub record CarriesSctp (carried : CarriedOctets) (packet : SeenSctp) : Type 0 where
  pub protocol : carried.protocol ≡ 132
  pub whole : carried.whole ≡ true
  pub least : 12 ≤ length carried.payload
  pub says : packet ≡ sctp_packet carried

abbrev pub CarriesNoSctp : CarriedOctets → Passed → Type 0
CarriesNoSctp carried OtherProtocol = carried.protocol ≢ 132
CarriesNoSctp carried Cut = (carried.protocol ≡ 132) × (carried.whole ≡ false)
CarriesNoSctp carried Bad = (carried.protocol ≡ 132) × (carried.whole ≡ true) × (length carried.payload < 12)
CarriesNoSctp carried _ = ⊥

-- the octets that were captured on a link of this type hold this packet
abbrev pub IsSctp : ℕ → List ℕ → SeenSctp → Type 0
IsSctp link s packet =
    (network : Network) × (ip : List ℕ) × (carried : CarriedOctets) ×
    HoldsIp (link_kind link) s network ip × CarriesOctets network ip carried × CarriesSctp carried packet

-- or none, and why
abbrev pub IsNoSctp : ℕ → List ℕ → Passed → Type 0
IsNoSctp link s why =
    HasLinkFault (link_kind link) s why ⊎
    ((network : Network) × (ip : List ℕ) × HoldsIp (link_kind link) s network ip ×
    (HasIpFault network ip why ⊎
    ((carried : CarriedOctets) × CarriesOctets network ip carried × CarriesNoSctp carried why)))

-- a DATA chunk, wherever its octets lie
pub record SeenData : Type 0 where
  pub unordered : Bool
  pub beginning : Bool
  pub ending : Bool
  pub tsn : ℕ
  pub stream : ℕ
  pub sequence : ℕ
  pub payload_protocol : ℕ
  pub user_data : List ℕ

abbrev pub data_seen : DataChunk → SeenData
data_seen chunk = record {
  unordered = chunk.unordered;
  beginning = chunk.beginning;
  ending = chunk.ending;
  tsn = chunk.tsn;
  stream = chunk.stream;
  sequence = chunk.sequence;
  payload_protocol = chunk.payload_protocol;
  user_data = chunk.user_data.now;
}

-- RFC 9260, 3.2: the Chunk Length counts the chunk's own header of four octets, and no padding
abbrev pub chunk_length : List ℕ → ℕ
chunk_length s = big_number 2 (drop 2 s)

-- a whole chunk stands at the front
pub record IsWholeChunk (s : List ℕ) : Type 0 where
  pub least : 4 ≤ length s
  pub header : 4 ≤ chunk_length s
  pub fits : chunk_length s ≤ length s

-- what stands behind it: padding fills it up to a multiple of four octets, but for the last one perhaps
abbrev pub behind_chunk : List ℕ → List ℕ
behind_chunk s = drop (4 * ((chunk_length s + 3) / 4)) s

-- whether the flag of this worth is set
abbrev pub has_flag : ℕ → List ℕ → Bool
has_flag worth s = nat_eq (slice_index s 1 / worth % 2) 1

-- RFC 9260, 3.3.1: a DATA chunk, which has one octet of user data at least
pub record IsData (s : List ℕ) : Type 0 where
  pub whole : IsWholeChunk s
  pub kind : slice_index s 0 ≡ 0
  pub least : 17 ≤ chunk_length s

abbrev pub data_chunk : List ℕ → SeenData
data_chunk s = record {
  unordered = has_flag 4 s;
  beginning = has_flag 2 s;
  ending = has_flag 1 s;
  tsn = big_number 4 (drop 4 s);
  stream = big_number 2 (drop 8 s);
  sequence = big_number 2 (drop 10 s);
  payload_protocol = big_number 4 (drop 12 s);
  user_data = take (chunk_length s - 16) (drop 16 s);
}

-- behind n chunks that are no DATA chunks stands the rest
abbrev pub PassesChunks : ℕ → List ℕ → List ℕ → Type 0
PassesChunks zero s rest = rest ≡ s
PassesChunks (suc n) s rest = IsWholeChunk s × (IsData s → ⊥) × PassesChunks n (behind_chunk s) rest

-- the next DATA chunk, and what stands behind it
pub record HasData (s : List ℕ) (chunk : SeenData) (rest : List ℕ) : Type 0 where
  pub count : ℕ
  pub from : List ℕ
  pub passes : PassesChunks count s from
  pub is : IsData from
  pub says : chunk ≡ data_chunk from
  pub behind : rest ≡ behind_chunk from

-- or none follows: the chunks end, or a chunk is there in part, which is dropped (RFC 9260, 6.10)
pub record HasNoData (s : List ℕ) : Type 0 where
  pub count : ℕ
  pub from : List ℕ
  pub passes : PassesChunks count s from
  pub ends : IsWholeChunk from → ⊥

-- one call: the next DATA chunk, or none, and then none again
abbrev pub GivesData : List ℕ → Option DataChunk → List ℕ → Type 0
GivesData s None rest = HasNoData s × (rest ≡ [])
GivesData s (Some chunk) rest = HasData s (data_seen chunk) rest

-- all DATA chunks of a packet, in their order
abbrev pub AreData : List ℕ → List SeenData → Type 0
AreData s [] = HasNoData s
AreData s (chunk ∷ chunks) = (rest : List ℕ) × HasData s chunk rest × AreData rest chunks
