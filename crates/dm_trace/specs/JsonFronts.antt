-- When, between whom and in which packet a message was seen, in JSON (RFC 8259).
use Rattle.std.specs.Prelude.{ℕ, Option, None, Some, codes}
use Rattle.json.specs.Json.{string, Members, member}
use Rattle.dm_capture.specs.declared.time.Time.{Time}
use Rattle.dm_view.specs.JsonWords.{number_json}
use Rattle.dm_trace.specs.declared.seen.Seen.{Seen}
use Rattle.dm_trace.specs.declared.seen.Transport.{Transport}
use Rattle.dm_trace.specs.declared.time.Clock.{Clock}
use Rattle.dm_trace.specs.Ends.{endpoint_text}
use Rattle.dm_trace.specs.Fronts.{transport_word}
use Rattle.dm_trace.specs.Times.{clock_text}

-- when, where that is known, before more
abbrev pub time_member : Clock → Option Time → Members → Members
time_member clock None more = more
time_member clock (Some time) more = member (codes "time") (string (clock_text clock time)) more

-- what carried it, and in which packet, before more
abbrev pub place_members : Transport → ℕ → Members → Members
place_members transport packet more =
    member (codes "transport") (string (transport_word transport)) (member (codes "packet") (number_json packet) more)

-- when, between whom, and in which packet, before more
abbrev pub seen_members : Clock → Seen → Members → Members
seen_members clock seen more =
    time_member clock seen.time
    (member (codes "from") (string (endpoint_text seen.from))
    (member (codes "to") (string (endpoint_text seen.to))
    (place_members seen.transport seen.packet more)))
