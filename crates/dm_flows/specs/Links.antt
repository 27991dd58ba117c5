-- What stands in front of an IP packet on a link.
use Rattle.std.specs.Prelude.{◌≡◌, ◌⊎◌, ℕ, zero, suc, ◌/◌, ◌<◌, ◌≤◌, nat_eq, Option, None, Some}
use Rattle.std.specs.Prelude.{List, length, drop, slice_index, if◌then◌else◌}
use Rattle.byteorder.specs.Endian.{big_number, little_number}
use Rattle.dm_flows.specs.declared.network.Network.{Network}
use Rattle.dm_flows.specs.declared.network.Network.TheVariants.{Ipv4, Ipv6}
use Rattle.dm_flows.specs.declared.link.LinkKind.{LinkKind}
use Rattle.dm_flows.specs.declared.link.LinkKind.TheVariants.{Ethernet, Cooked, CookedSecond, HostLoopback, Loopback}
use Rattle.dm_flows.specs.declared.link.LinkKind.TheVariants.{RawIp, RawIpv4, RawIpv6, Unknown}
use Rattle.dm_flows.specs.declared.passed.Passed.{Passed}
use Rattle.dm_flows.specs.declared.passed.Passed.TheVariants.{OtherLink, NotIp, Cut}

-- the types of links, as the registry of link types has them
abbrev pub link_kind : ℕ → LinkKind
link_kind link =
    if nat_eq link 1 then Ethernet
    else (if nat_eq link 113 then Cooked
    else (if nat_eq link 276 then CookedSecond
    else (if nat_eq link 0 then HostLoopback
    else (if nat_eq link 108 then Loopback
    else (if nat_eq link 101 then RawIp
    else (if nat_eq link 228 then RawIpv4
    else (if nat_eq link 229 then RawIpv6 else Unknown)))))))

-- the EtherType of a tag: 802.1Q or 802.1ad
abbrev pub IsTagType : ℕ → Type 0
IsTagType n = (n ≡ 0x8100) ⊎ (n ≡ 0x88a8)

-- behind n tags, of four octets each, stand an EtherType that is no tag's and the octets of that type
abbrev pub HasTags : ℕ → List ℕ → ℕ → List ℕ → Type 0
HasTags zero s kind rest =
    (2 ≤ length s) × (IsTagType (big_number 2 s) → ⊥) × (kind ≡ big_number 2 s) × (rest ≡ drop 2 s)
HasTags (suc n) s kind rest = (4 ≤ length s) × IsTagType (big_number 2 s) × HasTags n (drop 4 s) kind rest

-- behind n tags no whole EtherType is left, or no whole tag
abbrev pub EndsInTags : ℕ → List ℕ → Type 0
EndsInTags zero s = (length s < 2) ⊎ ((2 ≤ length s) × (length s < 4) × IsTagType (big_number 2 s))
EndsInTags (suc n) s = (4 ≤ length s) × IsTagType (big_number 2 s) × EndsInTags n (drop 4 s)

-- behind so many octets, and tags, stand an EtherType and octets of that type
abbrev pub HasType : ℕ → List ℕ → ℕ → List ℕ → Type 0
HasType front s kind rest = (n : ℕ) × (front ≤ length s) × HasTags n (drop front s) kind rest

abbrev pub EndsInType : ℕ → List ℕ → Type 0
EndsInType front s = (length s < front) ⊎ ((front ≤ length s) × (n : ℕ) × EndsInTags n (drop front s))

-- the EtherTypes of IP
abbrev pub network_of : ℕ → Option Network
network_of kind = if nat_eq kind 0x0800 then Some Ipv4 else (if nat_eq kind 0x86dd then Some Ipv6 else None)

-- the family of addresses by which BSD names IP: 2, and 24, 28 or 30
abbrev pub network_of_family : ℕ → Option Network
network_of_family n =
    if nat_eq n 2 then Some Ipv4
    else (if nat_eq n 24 then Some Ipv6
    else (if nat_eq n 28 then Some Ipv6 else (if nat_eq n 30 then Some Ipv6 else None)))

-- the version with which an IP packet begins
abbrev pub network_of_version : ℕ → Option Network
network_of_version n = if nat_eq n 4 then Some Ipv4 else (if nat_eq n 6 then Some Ipv6 else None)

-- the same where the order of the family's four octets is that of the host that captured
abbrev pub first_some : Option Network → Option Network → Option Network
first_some (Some network) other = Some network
first_some None other = other

abbrev pub host_network : List ℕ → Option Network
host_network s = first_some (network_of_family (big_number 4 s)) (network_of_family (little_number 4 s))

-- a header of so many octets, which names this network, and then the packet
abbrev pub IsBehind : ℕ → Option Network → List ℕ → Network → List ℕ → Type 0
IsBehind size found s network packet = (size ≤ length s) × (found ≡ Some network) × (packet ≡ drop size s)

abbrev pub IsNoneBehind : ℕ → Option Network → List ℕ → Passed → Type 0
IsNoneBehind size found s fault =
    ((fault ≡ Cut) × (length s < size)) ⊎ ((fault ≡ NotIp) × (size ≤ length s) × (found ≡ None))

-- the same behind an EtherType, which follows so many octets and tags
abbrev pub IsTyped : ℕ → List ℕ → Network → List ℕ → Type 0
IsTyped front s network packet = (kind : ℕ) × HasType front s kind packet × (network_of kind ≡ Some network)

abbrev pub IsNoneTyped : ℕ → List ℕ → Passed → Type 0
IsNoneTyped front s fault =
    ((fault ≡ Cut) × EndsInType front s) ⊎
    ((fault ≡ NotIp) × (kind : ℕ) × (rest : List ℕ) × HasType front s kind rest × (network_of kind ≡ None))

-- a link's packet holds this IP packet
abbrev pub HoldsIp : LinkKind → List ℕ → Network → List ℕ → Type 0
HoldsIp Ethernet s network packet = IsTyped 12 s network packet
HoldsIp Cooked s network packet = IsTyped 14 s network packet
HoldsIp CookedSecond s network packet = IsBehind 20 (network_of (big_number 2 s)) s network packet
HoldsIp HostLoopback s network packet = IsBehind 4 (host_network s) s network packet
HoldsIp Loopback s network packet = IsBehind 4 (network_of_family (big_number 4 s)) s network packet
HoldsIp RawIp s network packet =
    (1 ≤ length s) × (network_of_version (slice_index s 0 / 16) ≡ Some network) × (packet ≡ s)
HoldsIp RawIpv4 s network packet = (network ≡ Ipv4) × (packet ≡ s)
HoldsIp RawIpv6 s network packet = (network ≡ Ipv6) × (packet ≡ s)
HoldsIp Unknown s network packet = ⊥

-- why it holds none
abbrev pub HasLinkFault : LinkKind → List ℕ → Passed → Type 0
HasLinkFault Ethernet s fault = IsNoneTyped 12 s fault
HasLinkFault Cooked s fault = IsNoneTyped 14 s fault
HasLinkFault CookedSecond s fault = IsNoneBehind 20 (network_of (big_number 2 s)) s fault
HasLinkFault HostLoopback s fault = IsNoneBehind 4 (host_network s) s fault
HasLinkFault Loopback s fault = IsNoneBehind 4 (network_of_family (big_number 4 s)) s fault
HasLinkFault RawIp s fault = IsNoneBehind 1 (network_of_version (slice_index s 0 / 16)) s fault
HasLinkFault RawIpv4 s fault = ⊥
HasLinkFault RawIpv6 s fault = ⊥
HasLinkFault Unknown s fault = fault ≡ OtherLink
