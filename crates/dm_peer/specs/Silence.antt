-- The events at which nothing is sent or handed up, so that memory can't be wanted.
use Rattle.std.specs.Prelude.{◌≡◌, Bool, true, false, ◌||◌, Option, None, Some, IsTrue}
use Rattle.dm_wire.specs.declared.message.Message.{Message}
use Rattle.dm_wire.specs.Whole.{message_in}
use Rattle.dm_machine.specs.declared.connection.Conn.{Conn}
use Rattle.dm_machine.specs.Connection.{hold_of}
use Rattle.dm_machine.specs.Node.{is_shaped}
use Rattle.dm_peer.specs.declared.peer.Peer.{Peer}
use Rattle.dm_peer.specs.Events.{PeerEvent, Start, Timeout, Arrived}
use Rattle.dm_peer.specs.Acts.{acts, is_unread, is_dropped, wants_memory}

-- the message is an answer that is dropped
abbrev pub drops : Peer → Conn → Option Message → Bool
drops p c None = false
drops p c (Some m) = is_dropped p c m.header

-- a Start, a Timeout, octets that aren't looked at, and an answer that nothing awaits
abbrev pub is_silent : Peer → PeerEvent → Bool
is_silent p (Start c) = true
is_silent p Timeout = true
is_silent p (Arrived c s) = is_unread p.standing.core.state (hold_of p.standing.core c) || drops p c (message_in s)
is_silent p _ = false

-- their outcome takes no memory
abbrev pub SilentTakesNone : Type 0
SilentTakesNone =
    (p : Peer) (e : PeerEvent) → IsTrue (is_shaped p.standing.core) → is_silent p e ≡ true
    → wants_memory (acts p e) ≡ false
