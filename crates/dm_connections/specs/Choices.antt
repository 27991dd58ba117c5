-- Which connections are looked at, by what is sent on them (RFC 6733, 2.1 and 5.3.1).
use Rattle.std.specs.Prelude.{ℕ, Bool, ◌||◌, nat_eq, List, IsTrue}
use Rattle.std.specs.List.{list_any}
use Rattle.dm_flows.specs.declared.address.Endpoint.{Endpoint}
use Rattle.dm_flows.specs.Headers.{BeginsWithExchange}
use Rattle.dm_flows.specs.Tcps.{SeenSegment}
use Rattle.dm_connections.specs.declared.choice.Choice.{Choice}
use Rattle.dm_connections.specs.declared.choice.Choice.TheVariants.{Ports, Any}
use Rattle.dm_connections.specs.declared.ends.Ends.{Ends}

-- the end has one of the ports
abbrev pub has_port : List ℕ → Endpoint → Bool
has_port ports end = list_any (λ port. nat_eq port end.port) ports

-- one of both ends has one of the ports, or a Capabilities-Exchange-Request begins in what is sent
abbrev pub WantsBetween : Choice → Ends → Type 0 → Type 0
WantsBetween (Ports ports) ends begins = IsTrue (has_port ports.now ends.first || has_port ports.now ends.second)
WantsBetween Any ends begins = begins

-- TCP: the octets of the segment begin with it
abbrev pub Wants : Choice → SeenSegment → Type 0
Wants choice segment =
    WantsBetween choice (record { first = segment.source; second = segment.destination })
    (BeginsWithExchange segment.payload)
