-- TCP segments (RFC 9293, 3.1).
use Rattle.std.specs.Prelude.{◌≡◌, ◌≢◌, ◌⊎◌, ℕ, ◌*◌, ◌/◌, ◌%◌, ◌<◌, ◌≤◌, nat_eq, Bool, true, false}
use Rattle.std.specs.Prelude.{List, length, drop, slice_index}
use Rattle.byteorder.specs.Endian.{big_number}
use Rattle.dm_flows.specs.declared.address.Endpoint.{Endpoint}
use Rattle.dm_flows.specs.declared.network.Network.{Network}
use Rattle.dm_flows.specs.declared.passed.Passed.{Passed}
use Rattle.dm_flows.specs.declared.passed.Passed.TheVariants.{OtherProtocol, Cut, Bad}
use Rattle.dm_flows.specs.declared.segment.Segment.{Segment}
use Rattle.dm_flows.specs.Ips.{CarriedOctets, CarriesOctets, HasIpFault}
use Rattle.dm_flows.specs.Links.{link_kind, HoldsIp, HasLinkFault}

-- a segment, wherever its octets lie
pub record SeenSegment : Type 0 where
  pub source : Endpoint
  pub destination : Endpoint
  pub sequence : ℕ
  pub syn : Bool
  pub fin : Bool
  pub rst : Bool
  pub payload : List ℕ

abbrev pub segment_seen : Segment → SeenSegment
segment_seen segment = record {
  source = segment.source;
  destination = segment.destination;
  sequence = segment.sequence;
  syn = segment.syn;
  fin = segment.fin;
  rst = segment.rst;
  payload = segment.payload.now;
}

-- the Data Offset counts 32-bit words
abbrev pub tcp_header : List ℕ → ℕ
tcp_header s = 4 * (slice_index s 12 / 16)

-- whether the control bit of this worth is set
abbrev pub has_control : ℕ → List ℕ → Bool
has_control worth s = nat_eq (slice_index s 13 / worth % 2) 1

abbrev pub tcp_segment : CarriedOctets → SeenSegment
tcp_segment carried = record {
  source = record { address = carried.source; port = big_number 2 carried.payload };
  destination = record { address = carried.destination; port = big_number 2 (drop 2 carried.payload) };
  sequence = big_number 4 (drop 4 carried.payload);
  syn = has_control 2 carried.payload;
  fin = has_control 1 carried.payload;
  rst = has_control 4 carried.payload;
  payload = drop (tcp_header carried.payload) carried.payload;
}

-- the octets are a TCP header and its payload
pub record IsTcp (s : List ℕ) : Type 0 where
  pub least : 20 ≤ length s
  pub header : 20 ≤ tcp_header s
  pub fits : tcp_header s ≤ length s

abbrev pub IsNoTcp : List ℕ → Type 0
IsNoTcp s = (length s < 20) ⊎ ((20 ≤ length s) × ((tcp_header s < 20) ⊎ (length s < tcp_header s)))

-- an IP packet carries this segment
pub record CarriesSegment (carried : CarriedOctets) (segment : SeenSegment) : Type 0 where
  pub protocol : carried.protocol ≡ 6
  pub whole : carried.whole ≡ true
  pub tcp : IsTcp carried.payload
  pub says : segment ≡ tcp_segment carried

abbrev pub CarriesNone : CarriedOctets → Passed → Type 0
CarriesNone carried OtherProtocol = carried.protocol ≢ 6
CarriesNone carried Cut = (carried.protocol ≡ 6) × (carried.whole ≡ false)
CarriesNone carried Bad = (carried.protocol ≡ 6) × (carried.whole ≡ true) × IsNoTcp carried.payload
CarriesNone carried _ = ⊥

-- the octets that were captured on a link of this type hold this segment
abbrev pub IsSegment : ℕ → List ℕ → SeenSegment → Type 0
IsSegment link s segment =
    (network : Network) × (packet : List ℕ) × (carried : CarriedOctets) ×
    HoldsIp (link_kind link) s network packet × CarriesOctets network packet carried × CarriesSegment carried segment

-- or none, and why
abbrev pub IsNoSegment : ℕ → List ℕ → Passed → Type 0
IsNoSegment link s why =
    HasLinkFault (link_kind link) s why ⊎
    ((network : Network) × (packet : List ℕ) × HoldsIp (link_kind link) s network packet ×
    (HasIpFault network packet why ⊎
    ((carried : CarriedOctets) × CarriesOctets network packet carried × CarriesNone carried why)))
