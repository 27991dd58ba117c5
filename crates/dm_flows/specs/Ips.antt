-- IP packets: of version 4 (RFC 791, 3.1) and 6 (RFC 8200, 3 and 4).
use Rattle.std.specs.Prelude.{◌≡◌, ◌≢◌, ◌⊎◌, ℕ, zero, suc, ◌+◌, ◌-◌, ◌*◌, ◌/◌, ◌%◌, ◌<◌, ◌≤◌, nat_eq, nat_le}
use Rattle.std.specs.Prelude.{Bool, true, false, List, length, take, drop, slice_index, if◌then◌else◌}
use Rattle.byteorder.specs.Endian.{big_number}
use Rattle.dm_flows.specs.declared.address.Address.{Address}
use Rattle.dm_flows.specs.declared.address.Address.TheVariants.{V4, V6}
use Rattle.dm_flows.specs.declared.carried.Carried.{Carried}
use Rattle.dm_flows.specs.declared.extensions.Astray.{Astray}
use Rattle.dm_flows.specs.declared.extensions.Astray.TheVariants.{Ends, Fragmented}
use Rattle.dm_flows.specs.declared.network.Network.{Network}
use Rattle.dm_flows.specs.declared.network.Network.TheVariants.{Ipv4, Ipv6}
use Rattle.dm_flows.specs.declared.passed.Passed.{Passed}
use Rattle.dm_flows.specs.declared.passed.Passed.TheVariants.{Fragment, Cut, Bad}

-- what an IP packet carries: octets of a protocol, and whether all of them were captured
pub record CarriedOctets : Type 0 where
  pub source : Address
  pub destination : Address
  pub protocol : ℕ
  pub payload : List ℕ
  pub whole : Bool

abbrev pub carried_of : Carried → CarriedOctets
carried_of carried = record {
  source = carried.source;
  destination = carried.destination;
  protocol = carried.protocol;
  payload = carried.payload.now;
  whole = carried.whole;
}

-- RFC 791, 3.1: IHL counts 32-bit words
abbrev pub ipv4_header : List ℕ → ℕ
ipv4_header s = 4 * (slice_index s 0 % 16)

abbrev pub ipv4_total : List ℕ → ℕ
ipv4_total s = big_number 2 (drop 2 s)

-- MF and the Fragment Offset, without the reserved bit and DF
abbrev pub ipv4_fragment : List ℕ → ℕ
ipv4_fragment s = big_number 2 (drop 6 s) % 16384

-- what lies behind the Total Length, as Ethernet's padding, is no payload
abbrev pub ipv4_carried : List ℕ → CarriedOctets
ipv4_carried s = record {
  source = V4 (big_number 4 (drop 12 s));
  destination = V4 (big_number 4 (drop 16 s));
  protocol = slice_index s 9;
  payload = take (ipv4_total s - ipv4_header s) (drop (ipv4_header s) s);
  whole = nat_le (ipv4_total s) (length s);
}

-- the header says that it is one
pub record IsIpv4Header (s : List ℕ) : Type 0 where
  pub least : 20 ≤ length s
  pub version : slice_index s 0 / 16 ≡ 4
  pub header : 20 ≤ ipv4_header s
  pub total : ipv4_header s ≤ ipv4_total s

pub record IsIpv4 (s : List ℕ) (carried : CarriedOctets) : Type 0 where
  pub front : IsIpv4Header s
  pub header : ipv4_header s ≤ length s
  pub unfragmented : ipv4_fragment s ≡ 0
  pub says : carried ≡ ipv4_carried s

abbrev pub HasIpv4Fault : List ℕ → Passed → Type 0
HasIpv4Fault s Cut = (length s < 20) ⊎ (IsIpv4Header s × (length s < ipv4_header s))
HasIpv4Fault s Bad =
    (20 ≤ length s) ×
    ((slice_index s 0 / 16 ≢ 4) ⊎ (ipv4_header s < 20) ⊎ (ipv4_total s < ipv4_header s))
HasIpv4Fault s Fragment = IsIpv4Header s × (ipv4_header s ≤ length s) × (ipv4_fragment s ≢ 0)
HasIpv4Fault s _ = ⊥

-- RFC 8200, 4: the extension headers that are passed: Hop-by-Hop Options, Routing, Fragment, Authentication (RFC 4302),
-- Destination Options
abbrev pub IsExtension : ℕ → Type 0
IsExtension n = (n ≡ 0) ⊎ (n ≡ 43) ⊎ (n ≡ 44) ⊎ (n ≡ 51) ⊎ (n ≡ 60)

-- the octets of the one with this number
abbrev pub extension_size : ℕ → List ℕ → ℕ
extension_size next s =
    if nat_eq next 44 then 8
    else (if nat_eq next 51 then 4 * (slice_index s 1 + 2) else 8 * (slice_index s 1 + 1))

-- RFC 8200, 4.5: the offset and the M flag of a Fragment header, which are 0 where the packet is whole (RFC 6946)
abbrev pub fragment_part : List ℕ → ℕ
fragment_part s = big_number 2 (drop 2 s) / 8 + big_number 2 (drop 2 s) % 2

abbrev pub IsFragmentHeader : ℕ → List ℕ → Type 0
IsFragmentHeader next s = (next ≡ 44) × (fragment_part s ≢ 0)

-- one whole extension header stands at the front
pub record IsWholeExtension (next : ℕ) (s : List ℕ) : Type 0 where
  pub kind : IsExtension next
  pub least : 2 ≤ length s
  pub fits : extension_size next s ≤ length s

-- behind n extension headers, the first of which has the number next, stand octets of a protocol
abbrev pub LeadsTo : ℕ → ℕ → List ℕ → ℕ → List ℕ → Type 0
LeadsTo zero next s protocol payload = (IsExtension next → ⊥) × (protocol ≡ next) × (payload ≡ s)
LeadsTo (suc n) next s protocol payload =
    IsWholeExtension next s × (IsFragmentHeader next s → ⊥) ×
    LeadsTo n (slice_index s 0) (drop (extension_size next s) s) protocol payload

-- or n are there, and what follows is no whole one
abbrev pub EndsInExtensions : ℕ → ℕ → List ℕ → Type 0
EndsInExtensions zero next s =
    IsExtension next × ((length s < 2) ⊎ ((2 ≤ length s) × (length s < extension_size next s)))
EndsInExtensions (suc n) next s =
    IsWholeExtension next s × (IsFragmentHeader next s → ⊥) ×
    EndsInExtensions n (slice_index s 0) (drop (extension_size next s) s)

-- or a fragment's
abbrev pub LeadsToFragment : ℕ → ℕ → List ℕ → Type 0
LeadsToFragment zero next s = IsWholeExtension next s × IsFragmentHeader next s
LeadsToFragment (suc n) next s =
    IsWholeExtension next s × (IsFragmentHeader next s → ⊥) ×
    LeadsToFragment n (slice_index s 0) (drop (extension_size next s) s)

abbrev pub GoesAstray : ℕ → List ℕ → Astray → Type 0
GoesAstray next s Ends = (n : ℕ) × EndsInExtensions n next s
GoesAstray next s Fragmented = (n : ℕ) × LeadsToFragment n next s

abbrev pub ipv6_size : List ℕ → ℕ
ipv6_size s = big_number 2 (drop 4 s)

-- what was captured of the octets behind the header
abbrev pub ipv6_rest : List ℕ → List ℕ
ipv6_rest s = take (ipv6_size s) (drop 40 s)

abbrev pub ipv6_whole : List ℕ → Bool
ipv6_whole s = nat_le (ipv6_size s) (length s - 40)

abbrev pub ipv6_carried : List ℕ → ℕ → List ℕ → CarriedOctets
ipv6_carried s protocol payload = record {
  source = V6 (big_number 16 (drop 8 s));
  destination = V6 (big_number 16 (drop 24 s));
  protocol = protocol;
  payload = payload;
  whole = ipv6_whole s;
}

pub record IsIpv6Header (s : List ℕ) : Type 0 where
  pub least : 40 ≤ length s
  pub version : slice_index s 0 / 16 ≡ 6

-- RFC 8200, 3
pub record IsIpv6 (s : List ℕ) (carried : CarriedOctets) : Type 0 where
  pub front : IsIpv6Header s
  pub headers : (n : ℕ) × LeadsTo n (slice_index s 6) (ipv6_rest s) carried.protocol carried.payload
  pub says : carried ≡ ipv6_carried s carried.protocol carried.payload

-- the extension headers end in the middle: since the packet was cut, or by its own length
abbrev pub EndsInIpv6 : List ℕ → Bool → Type 0
EndsInIpv6 s whole =
    IsIpv6Header s × (ipv6_whole s ≡ whole) × (n : ℕ) × EndsInExtensions n (slice_index s 6) (ipv6_rest s)

abbrev pub HasIpv6Fault : List ℕ → Passed → Type 0
HasIpv6Fault s Cut = (length s < 40) ⊎ EndsInIpv6 s false
HasIpv6Fault s Bad = ((40 ≤ length s) × (slice_index s 0 / 16 ≢ 6)) ⊎ EndsInIpv6 s true
HasIpv6Fault s Fragment = IsIpv6Header s × (n : ℕ) × LeadsToFragment n (slice_index s 6) (ipv6_rest s)
HasIpv6Fault s _ = ⊥

-- a packet of either version
abbrev pub CarriesOctets : Network → List ℕ → CarriedOctets → Type 0
CarriesOctets Ipv4 s carried = IsIpv4 s carried
CarriesOctets Ipv6 s carried = IsIpv6 s carried

abbrev pub HasIpFault : Network → List ℕ → Passed → Type 0
HasIpFault Ipv4 s fault = HasIpv4Fault s fault
HasIpFault Ipv6 s fault = HasIpv6Fault s fault
