-- Which connections a peer holds, and what an event leaves of them (RFC 6733, 5.6).
use Rattle.std.specs.Prelude.{◌≡◌, Bool, true, false, ◌==◌, List}
use Rattle.std.specs.List.{list_any}
use Rattle.dm_machine.specs.declared.connection.Conn.{Conn}
use Rattle.dm_machine.specs.Connection.{Hold, NotHeld, hold_of}
use Rattle.dm_peer.specs.declared.actions.Action.{Action}
use Rattle.dm_peer.specs.declared.actions.Action.TheVariants as action
use Rattle.dm_peer.specs.declared.peer.Peer.{Peer}
use Rattle.dm_peer.specs.Acts.{Moved, acts}
use Rattle.dm_peer.specs.Events.{PeerEvent, Start, Ack, Nack, Arrived, Gone}
use Rattle.dm_peer.specs.Kept.{IsKept}

abbrev pub is_held : Hold → Bool
is_held NotHeld = false
is_held _ = true

-- the peer holds the connection, as the one that it opened or as one that it accepted
abbrev pub holds : Conn → Peer → Bool
holds c p = is_held (hold_of p.standing.core c)

-- the event names the connection
abbrev pub names_conn : PeerEvent → Conn → Bool
names_conn (Start d) c = d.0 == c.0
names_conn (Ack d) c = d.0 == c.0
names_conn (Nack d) c = d.0 == c.0
names_conn (Arrived d s) c = d.0 == c.0
names_conn (Gone d) c = d.0 == c.0
names_conn _ c = false

-- the action closes the connection
abbrev pub closes_conn : Conn → Action → Bool
closes_conn c (action.Close d) = d.0 == c.0
closes_conn c _ = false

-- behind an event a peer holds what it held before, and at most the connection that the event names beside
abbrev pub OthersStayUnheld : Type 0
OthersStayUnheld =
    (p q : Peer) (e : PeerEvent) (actions : List Action) (c : Conn) → IsKept p → acts p e ≡ Moved actions q
    → holds c p ≡ false → names_conn e c ≡ false → holds c q ≡ false

-- it doesn't hold what it closes
abbrev pub ClosedIsUnheld : Type 0
ClosedIsUnheld =
    (p q : Peer) (e : PeerEvent) (actions : List Action) (c : Conn) → IsKept p → acts p e ≡ Moved actions q
    → list_any (closes_conn c) actions ≡ true → holds c q ≡ false

-- nor a connection that has ended
abbrev pub GoneIsUnheld : Type 0
GoneIsUnheld =
    (p q : Peer) (actions : List Action) (c : Conn) → IsKept p → acts p (Gone c) ≡ Moved actions q
    → holds c q ≡ false
