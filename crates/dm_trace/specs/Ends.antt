-- The ends of a connection, as std writes a socket address.
use Rattle.std.specs.Prelude.{ℕ, List, ◌++◌, codes}
use Rattle.std.specs.Fmt.{decimal}
use Rattle.std.specs.Int.{w32, w128, to_be_bytes}
use Rattle.std.specs.Net.Addr.{segments_of}
use Rattle.std.specs.Net.Text.{ipv4_text, ipv6_text}
use Rattle.dm_flows.specs.declared.address.Address.{Address}
use Rattle.dm_flows.specs.declared.address.Address.TheVariants.{V4, V6}
use Rattle.dm_flows.specs.declared.address.Endpoint.{Endpoint}

-- an address of IP with a port: one of version 6 between brackets (RFC 3986, 3.2.2), in the form of RFC 5952
abbrev pub address_and_port : Address → ℕ → List ℕ
address_and_port (V4 bits) port = ipv4_text (to_be_bytes w32 bits) ++ codes ":" ++ decimal port
address_and_port (V6 bits) port =
    codes "[" ++ ipv6_text (segments_of (to_be_bytes w128 bits)) ++ codes "]:" ++ decimal port

abbrev pub endpoint_text : Endpoint → List ℕ
endpoint_text endpoint = address_and_port endpoint.address endpoint.port
