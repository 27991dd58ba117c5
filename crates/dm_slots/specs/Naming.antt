-- Whom an event names (RFC 6733, 5.6).
use Rattle.std.specs.Prelude.{◌≡◌, true}
use Rattle.dm_machine.specs.declared.connection.Conn.{Conn}
use Rattle.dm_peer.specs.Events.{PeerEvent}
use Rattle.dm_peer.specs.Holding.{names_conn}
use Rattle.dm_slots.specs.Intakes.{Intakes, is_there}

-- the connection that the event names, if it names one, is there
abbrev pub NamesThere : PeerEvent → Intakes → Type 0
NamesThere e f = (c : Conn) → names_conn e c ≡ true → is_there c.0 f ≡ true

-- the event names no other connection
abbrev pub NamesAtMost : PeerEvent → Conn → Type 0
NamesAtMost e conn = (c : Conn) → names_conn e c ≡ true → c ≡ conn
