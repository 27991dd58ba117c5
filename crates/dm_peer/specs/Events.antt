-- What a peer is told, with octets as lists.
use Rattle.std.specs.Prelude.{ℕ, List, []}
use Rattle.dm_base.specs.declared.kind.Cause.{Cause}
use Rattle.dm_base.specs.declared.kind.Cause.TheVariants.{Rebooting}
use Rattle.dm_machine.specs.declared.connection.Conn.{Conn}
use Rattle.dm_peer.specs.declared.events.Event.{Event}
use Rattle.dm_peer.specs.declared.events.Event.TheVariants as event

pub data PeerEvent : Type 0 where
  Start : Conn → PeerEvent
  Stop : Cause → PeerEvent
  Timeout : PeerEvent
  Tick : PeerEvent
  Ack : Conn → PeerEvent
  Nack : Conn → PeerEvent
  Arrived : Conn → List ℕ → PeerEvent
  Gone : Conn → PeerEvent
  Submit : List ℕ → PeerEvent

abbrev pub event_told : Event → PeerEvent
event_told (event.Start c) = Start c
event_told (event.Stop cause) = Stop cause
event_told event.Timeout = Timeout
event_told event.Tick = Tick
event_told (event.Ack c) = Ack c
event_told (event.Nack c) = Nack c
event_told (event.Arrived c octets) = Arrived c octets.now
event_told (event.Gone c) = Gone c
event_told (event.Submit octets) = Submit octets.now

-- the octets that an event brings
abbrev pub octets_in : PeerEvent → List ℕ
octets_in (Arrived c s) = s
octets_in (Submit s) = s
octets_in _ = []

-- the cause of a Stop, which alone has one
abbrev pub cause_in : PeerEvent → Cause
cause_in (Stop cause) = cause
cause_in _ = Rebooting
