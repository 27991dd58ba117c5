-- What addresses and values are printed as.
use Rattle.std.specs.Prelude.{◌≡◌, ℕ, ◌++◌, if◌then◌else◌, List, codes}
use Rattle.std.specs.Fmt.{decimal, signed_decimal}
use Rattle.std.specs.Str.{is_utf8}
use Rattle.std.specs.Net.Addr.{ipv4_octets, ipv6_octets, ipv6_segments, segments_of}
use Rattle.std.specs.Net.Text.{ipv4_text, ipv6_text}
use Rattle.std.specs.declared.net.ip_addr.IpAddr.{IpAddr}
use Rattle.std.specs.declared.net.ip_addr.IpAddr.TheVariants as net
use Rattle.hex.specs.Hex.{encode_lower}
use Rattle.dm_wire.specs.Printed.{list_text}
use Rattle.dm_value.specs.declared.address.Ip.{Ip as AnIp}
use Rattle.dm_value.specs.declared.address.Ip.TheVariants.{V4, V6}
use Rattle.dm_value.specs.declared.address.Address.{Address as AnAddress}
use Rattle.dm_value.specs.declared.address.Address.TheVariants.{Ip, Other}
use Rattle.dm_value.specs.declared.value.Value.{Value}
use Rattle.dm_value.specs.declared.value.Value.TheVariants.{Bytes, Int32, Int64, Uint32, Uint64, Addr}
use Rattle.dm_value.specs.declared.value.Value.TheVariants.{Time, Text, Identity, Uri, Enumerated, Group}
use Rattle.dm_value.specs.Dates.{from_1900, utc_at, utc_text}
use Rattle.dm_value.specs.Times.{unix_time}

-- the address of std has the octets of ip
abbrev pub IsAddressOf : AnIp → IpAddr → Type 0
IsAddressOf (V4 octets) (net.V4 address) = ipv4_octets address ≡ octets
IsAddressOf (V6 octets) (net.V6 address) = ipv6_segments address ≡ segments_of octets
IsAddressOf _ _ = ⊥

-- the octets of std's address
abbrev pub ip_words : IpAddr → AnIp
ip_words (net.V4 address) = V4 (ipv4_octets address)
ip_words (net.V6 address) = V6 (ipv6_octets address)

-- an IP address as std writes it
abbrev pub ip_text : AnIp → List ℕ
ip_text (V4 octets) = ipv4_text octets
ip_text (V6 octets) = ipv6_text (segments_of octets)

abbrev pub address_text : AnAddress → List ℕ
address_text (Ip ip) = ip_text ip
address_text (Other family octets) = codes "family " ++ decimal family ++ codes " " ++ encode_lower octets

-- the octets as text where they are UTF-8, else in hexadecimal
abbrev pub name_text : List ℕ → List ℕ
name_text octets = if is_utf8 octets then octets else encode_lower octets

-- the seconds since 1970, and the date and time of day
abbrev pub time_text : ℕ → List ℕ
time_text t = signed_decimal (unix_time t) ++ codes " " ++ utc_text (utc_at (from_1900 t))

abbrev pub value_text : Value → List ℕ
value_text (Bytes octets) = encode_lower octets
value_text (Int32 n) = signed_decimal n
value_text (Int64 n) = signed_decimal n
value_text (Uint32 n) = decimal n
value_text (Uint64 n) = decimal n
value_text (Addr address) = address_text address
value_text (Time t) = time_text t
value_text (Text text) = text
value_text (Identity name) = name_text name
value_text (Uri uri) = name_text uri
value_text (Enumerated n) = signed_decimal n
value_text (Group avps) = list_text avps
