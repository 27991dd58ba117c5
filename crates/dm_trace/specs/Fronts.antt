-- What stands before what is said of a message that was seen.
use Rattle.std.specs.Prelude.{ℕ, List, ◌++◌, codes}
use Rattle.std.specs.Fmt.{decimal}
use Rattle.dm_flows.specs.declared.address.Endpoint.{Endpoint}
use Rattle.dm_trace.specs.declared.seen.Seen.{Seen}
use Rattle.dm_trace.specs.declared.seen.Transport.{Transport}
use Rattle.dm_trace.specs.declared.seen.Transport.TheVariants.{Tcp, Sctp}
use Rattle.dm_trace.specs.declared.time.Clock.{Clock}
use Rattle.dm_trace.specs.Ends.{endpoint_text}
use Rattle.dm_trace.specs.Times.{when_text}

abbrev pub transport_word : Transport → List ℕ
transport_word Tcp = codes "tcp"
transport_word Sctp = codes "sctp"

-- as ` 10.0.0.1:41234 > [2001:db8::1]:3868`
abbrev pub ends_text : Endpoint → Endpoint → List ℕ
ends_text from to = codes " " ++ endpoint_text from ++ codes " > " ++ endpoint_text to

-- as ` tcp packet 17`
abbrev pub place_text : Transport → ℕ → List ℕ
place_text transport packet = codes " " ++ transport_word transport ++ codes " packet " ++ decimal packet

-- when, between whom, and in which packet
abbrev pub front_text : Clock → Seen → List ℕ
front_text clock seen =
    when_text clock seen.time ++ ends_text seen.from seen.to ++ place_text seen.transport seen.packet
