-- What is said of the packets of a capture.
use Rattle.std.specs.Prelude.{◌≡◌, ◌<◌, ◌⊎◌, ℕ, ◌+◌, ◌-◌, ◌^◌, min, nat_eq, nat_lt, Bool, true, false, ◌&&◌}
use Rattle.std.specs.Prelude.{Option, None, Some, List, [], ◌∷◌, ◌++◌, length, if◌then◌else◌}
use Rattle.dm_associations.specs.Associations.{TakesPacket, packet_ends}
use Rattle.dm_associations.specs.Exchanges.{ChunksBeginExchange}
use Rattle.dm_capture.specs.declared.time.Time.{Time}
use Rattle.dm_capture.specs.Packets.{Captured}
use Rattle.dm_connections.specs.declared.ends.Ends.{Ends}
use Rattle.dm_connections.specs.declared.limits.Limits.{Limits}
use Rattle.dm_connections.specs.Choices.{WantsBetween}
use Rattle.dm_connections.specs.Held.{HeldByEnds, HeldTable, connection_of, found_ends, all_octets, segment_ends}
use Rattle.dm_connections.specs.Held.{SentGoesIn, HasNoPlaceBetween}
use Rattle.dm_flows.specs.contracts.address.EndpointPartialEq.TheImpl as compared
use Rattle.dm_flows.specs.declared.address.Endpoint.{Endpoint}
use Rattle.dm_flows.specs.declared.passed.Passed.{Passed}
use Rattle.dm_flows.specs.declared.passed.Passed.TheVariants.{Fragment, Cut, OtherProtocol}
use Rattle.dm_flows.specs.Connections.{TakesSegment}
use Rattle.dm_flows.specs.Headers.{BeginsWithExchange}
use Rattle.dm_flows.specs.Sctps.{SeenSctp, IsSctp, IsNoSctp}
use Rattle.dm_flows.specs.Tcps.{SeenSegment, IsSegment, IsNoSegment}
use Rattle.dm_tables.specs.Definitions.{Definitions}
use Rattle.dm_trace.specs.declared.seen.Seen.{Seen}
use Rattle.dm_trace.specs.declared.seen.Transport.{Transport}
use Rattle.dm_trace.specs.declared.seen.Transport.TheVariants.{Tcp, Sctp}
use Rattle.dm_trace.specs.declared.time.Clock.{Clock}
use Rattle.dm_trace.specs.declared.time.Clock.TheVariants.{Utc, Since}
use Rattle.dm_view_lines.specs.declared.message_reports.Task.{Task}
use Rattle.dm_trace_view.specs.declared.counts.Counts.{Counts}
use Rattle.dm_trace_view.specs.declared.handed_messages.Direction.{Direction}
use Rattle.dm_trace_view.specs.declared.sent_and_unread.Unread.{Unread}
use Rattle.dm_trace_view.specs.declared.packet_context.Hearing.{Hearing}
use Rattle.dm_trace_view.specs.declared.packet_context.Reckoned.{Reckoned}
use Rattle.dm_trace_view.specs.declared.lost.Lost.{Lost}
use Rattle.dm_trace_view.specs.declared.lost.Lost.TheVariants as lost
use Rattle.dm_trace_view.specs.declared.times.Times.{Times}
use Rattle.dm_trace_view.specs.declared.times.Times.TheVariants as times
use Rattle.dm_trace_view.specs.declared.trace_speaker.TraceSpeaker.{TraceSpeaker}
use Rattle.dm_trace_view.specs.Handed.{SaysHanded}
use Rattle.dm_trace_view.specs.Talks.{Talk, tcp_talk, sctp_talk}
use Rattle.dm_trace_view.specs.Told.{lost_text}

-- both are the same end
abbrev pub same_end : Endpoint → Endpoint → Bool
same_end = (compared.ghosts).eq

-- the first time that is known
abbrev pub first_time_of : Option Time → Option Time → Option Time
first_time_of None time = time
first_time_of (Some first) time = Some first

abbrev pub clock_of : Times → Option Time → Clock
clock_of times.Utc first = Utc
clock_of times.Relative None = Utc
clock_of times.Relative (Some first) = Since first

-- up to 2^64 - 1
abbrev pub more_of : ℕ → ℕ → ℕ
more_of count n = min (count + n) (2 ^ 64 - 1)

-- a packet that carries neither
abbrev pub counted_passed : Passed → Counts → Counts
counted_passed Fragment counts = record counts { fragments = more_of counts.fragments 1 }
counted_passed Cut counts = record counts { cut = more_of counts.cut 1 }
counted_passed why counts = counts

-- from the sender of what is sent to whom it is for
abbrev pub seen_by : Hearing → Ends → Seen
seen_by h between = record {
  time = h.time;
  from = between.first;
  to = between.second;
  transport = h.transport;
  packet = h.packet;
}

-- its direction on a connection of these ends
abbrev pub direction_by : Hearing → Ends → Ends → Direction
direction_by h between ends = record {
  clock = h.clock;
  seen = seen_by h between;
  ends = ends;
  from_first = same_end between.first ends.first;
}

-- how many octets of a connection were passed over so far, and how many of Diameter over DTLS came
abbrev pub unread_in : {C : Type 0} → (C → ℕ) → (C → ℕ) → Option C → Unread
unread_in passed_in secured_in None = record { passed = 0; secured = 0 }
unread_in passed_in secured_in (Some c) = record { passed = passed_in c; secured = secured_in c }

abbrev pub unread_before : {C : Type 0} → (C → ℕ) → (C → ℕ) → HeldByEnds C → Option Ends → Unread
unread_before passed_in secured_in held None = record { passed = 0; secured = 0 }
unread_before passed_in secured_in held (Some ends) = unread_in passed_in secured_in (connection_of held ends)

abbrev pub unread_since : Unread → Unread → Unread
unread_since before after = record {
  passed = after.passed - before.passed;
  secured = after.secured - before.secured;
}

-- what was lost of what is sent between these ends
abbrev pub lost_between : Hearing → Ends → Lost → List ℕ
lost_between h between what = lost_text h.task (record {
  packet = h.packet;
  from = between.first;
  to = between.second;
  lost = what;
})

-- what is told of octets that were passed over since then
abbrev pub passed_text : Hearing → Ends → ℕ → ℕ → List ℕ
passed_text h between before after =
    if nat_lt before after then lost_between h between (lost.Passed (after - before)) else []

-- the first octets of Diameter over DTLS of a connection are told, and no later ones
abbrev pub secured_text : Hearing → Ends → ℕ → ℕ → List ℕ
secured_text h between before after =
    if nat_eq before 0 && nat_lt 0 after then lost_between h between (lost.Secured after) else []

abbrev pub unread_text : Hearing → Ends → Unread → Unread → List ℕ
unread_text h between before after =
    passed_text h between before.passed after.passed ++ secured_text h between before.secured after.secured

-- connections that were let go, one after the other, as long as more is held than may be; each is told
abbrev pub HoldsTooMuch : {C : Type 0} → (C → ℕ) → Limits → HeldTable C → Type 0
HoldsTooMuch held_in limits table =
    (limits.connections < length table.held) ⊎ (limits.octets < all_octets held_in table.held)

abbrev pub gone_text : {C : Type 0} → (C → ℕ) → Task → ℕ → Ends × C → List ℕ
gone_text pending_in task packet gone = lost_text task (record {
  packet = packet;
  from = gone.0.first;
  to = gone.0.second;
  lost = lost.LetGo (pending_in gone.1);
})

abbrev pub LetsGo : {C : Type 0} → (C → ℕ) → (C → ℕ) → Task → ℕ → Limits → HeldTable C → ℕ → List (Ends × C)
    → HeldTable C → ℕ → List ℕ → Type 0
LetsGo held_in pending_in task packet limits old passed [] new after text =
    (HoldsTooMuch held_in limits old → ⊥) × (new ≡ old) × (after ≡ passed) × (text ≡ [])
LetsGo {C} held_in pending_in task packet limits old passed (gone ∷ more) new after text =
    HoldsTooMuch held_in limits old × (mid : HeldTable C) × (old.held ≡ mid.held ++ gone ∷ []) × (mid.max ≡ old.max)
    × (others : List ℕ)
    × LetsGo held_in pending_in task packet limits mid (more_of passed (pending_in gone.1)) more new after others
    × (text ≡ gone_text pending_in task packet gone ++ others)

-- what is sent on a connection that is looked at
abbrev pub with_unread : Unread → Counts → Counts
with_unread unread counts = record counts {
  passed = more_of counts.passed unread.passed;
  secured = more_of counts.secured unread.secured;
}

abbrev pub counted_sent : Option Ends → Unread → Counts → Counts
counted_sent None unread counts = record (with_unread unread counts) {
  connections = more_of counts.connections 1;
}
counted_sent (Some ends) unread counts = with_unread unread counts

-- its connection takes it and hands out messages; what was passed over meanwhile or is secured is told, and the
-- connections that are let go
pub record SaysHeard {C W : Type 0} (talk : Talk C W) (d : Definitions) (h : Hearing) (between : Ends) (begins : Type 0)
    (P : C → C → Type 0) (old : HeldTable C) (before : Reckoned) (new : HeldTable C) (after : Reckoned)
    (text : List ℕ) : Type 0 where
  pub ends : Ends
  pub heard : HeldTable C
  pub goes : SentGoesIn talk.fresh old.held old.max between (WantsBetween h.looks.choice between begins) ends
      heard.held P
  pub max : heard.max ≡ old.max
  pub handed : HeldTable C
  pub said : List ℕ
  pub says : SaysHanded talk h.task d h.looks.filter (direction_by h between ends) before.numbered heard after.numbered
      handed said
  pub ago : Unread
  pub ago_is : ago ≡ unread_before talk.passed_in talk.secured_in old.held
      (found_ends old.held between.first between.second)
  pub now : Unread
  pub now_is : now ≡ unread_in talk.passed_in talk.secured_in (connection_of handed.held ends)
  pub counted : Counts
  pub counted_is : counted ≡ counted_sent (found_ends old.held between.first between.second)
      (unread_since ago now) before.counts
  pub gone : List (Ends × C)
  pub others : List ℕ
  pub lets : LetsGo talk.held_in talk.pending_in h.task h.packet h.looks.limits handed counted.passed gone new
      after.counts.passed others
  pub text_is : text ≡ said ++ (unread_text h between ago now ++ others)
  pub counts : after.counts ≡ record counted { passed = after.counts.passed }

-- what is sent on no connection that is looked at
pub record PassesSent {C : Type 0} (h : Hearing) (between : Ends) (begins : Type 0) (old : HeldTable C)
    (before : Reckoned) (new : HeldTable C) (after : Reckoned) (text : List ℕ) : Type 0 where
  pub none : HasNoPlaceBetween old.held between (WantsBetween h.looks.choice between begins)
  pub same : new ≡ old
  pub counted : after ≡ before
  pub nothing : text ≡ []

abbrev pub SaysSent : {C W : Type 0} → Talk C W → Definitions → Hearing → Ends → Type 0 → (C → C → Type 0)
    → HeldTable C → Reckoned → HeldTable C → Reckoned → List ℕ → Type 0
SaysSent talk d h between begins P old before new after text =
    SaysHeard talk d h between begins P old before new after text
    ⊎ PassesSent h between begins old before new after text

abbrev pub hearing_of : TraceSpeaker → Task → Captured → Transport → Hearing
hearing_of s task packet transport = record {
  task = task;
  looks = s.looks;
  clock = clock_of s.looks.times s.first;
  time = packet.time;
  packet = packet.number;
  transport = transport;
}

-- a segment
pub record SaysSegment (task : Task) (d : Definitions) (s : TraceSpeaker) (packet : Captured) (segment : SeenSegment)
    (t : TraceSpeaker) (text : List ℕ) : Type 0 where
  pub sent : SaysSent tcp_talk d (hearing_of s task packet Tcp) (segment_ends segment)
      (BeginsWithExchange segment.payload) (λ before after. TakesSegment before segment after) s.connections s.reckoned
      t.connections t.reckoned text
  pub rest : t ≡ record s { connections = t.connections; reckoned = t.reckoned }

-- an SCTP packet
pub record SaysSctp (task : Task) (d : Definitions) (s : TraceSpeaker) (packet : Captured) (carried : SeenSctp)
    (t : TraceSpeaker) (text : List ℕ) : Type 0 where
  pub sent : SaysSent sctp_talk d (hearing_of s task packet Sctp) (packet_ends carried)
      (ChunksBeginExchange carried.chunks) (λ before after. TakesPacket before carried after) s.associations s.reckoned
      t.associations t.reckoned text
  pub rest : t ≡ record s { associations = t.associations; reckoned = t.reckoned }

abbrev pub with_passed : TraceSpeaker → Passed → TraceSpeaker
with_passed s why = record s { reckoned = record s.reckoned { counts = counted_passed why s.reckoned.counts } }

-- a packet that has no segment since it carries another protocol: what its chunks do, or why it is no SCTP packet
abbrev pub SaysOther : Task → Definitions → TraceSpeaker → Captured → TraceSpeaker → List ℕ → Type 0
SaysOther task d s packet t text =
    ((carried : SeenSctp) × IsSctp packet.link packet.octets carried × SaysSctp task d s packet carried t text)
    ⊎ ((why : Passed) × IsNoSctp packet.link packet.octets why × (t ≡ with_passed s why) × (text ≡ []))

abbrev pub carries_other : Passed → Bool
carries_other OtherProtocol = true
carries_other why = false

abbrev pub with_first_time : TraceSpeaker → Option Time → TraceSpeaker
with_first_time s time = record s { first = first_time_of s.first time }

-- a packet: what its segment does, or what another protocol, or why it has neither
abbrev pub SaysPacket : Definitions → Task → TraceSpeaker → Captured → TraceSpeaker → List ℕ → Type 0
SaysPacket d task s packet t text =
    ((segment : SeenSegment) × IsSegment packet.link packet.octets segment
    × SaysSegment task d (with_first_time s packet.time) packet segment t text)
    ⊎ ((why : Passed) × IsNoSegment packet.link packet.octets why × (carries_other why ≡ true)
    × SaysOther task d (with_first_time s packet.time) packet t text)
    ⊎ ((why : Passed) × IsNoSegment packet.link packet.octets why × (carries_other why ≡ false)
    × (t ≡ with_passed (with_first_time s packet.time) why) × (text ≡ []))
