-- How an event names a connection, and when a connection has ended: what a driver owes for some laws.
use Rattle.std.specs.Prelude.{◌≡◌, ◌⊎◌, ⊤, Bool, true, false, ◌==◌, Some, List, [], ◌∷◌}
use Rattle.dm_machine.specs.declared.connection.Conn.{Conn}
use Rattle.dm_peer.specs.declared.actions.Action.{Action}
use Rattle.dm_peer.specs.declared.actions.Action.TheVariants.{Close}
use Rattle.dm_peer.specs.Events.{PeerEvent, Ack, Nack, Arrived, Gone}
pub use Rattle.dm_peer.specs.Holding.{names_conn}
use Rattle.dm_history.specs.History.{Happened, Once, StandsAmong}

-- it tells that the connection was made, or brings octets on it
abbrev pub tells_made : PeerEvent → Conn → Bool
tells_made (Ack d) c = d.0 == c.0
tells_made (Arrived d s) c = d.0 == c.0
tells_made _ c = false

-- it tells that the connection couldn't be made, or has ended
abbrev pub event_ends : PeerEvent → Conn → Bool
event_ends (Nack d) c = d.0 == c.0
event_ends (Gone d) c = d.0 == c.0
event_ends _ c = false

-- a Nack is told of what wasn't made: no event before told that it was
abbrev pub NacksUnmade : Conn → PeerEvent → List Happened → Type 0
NacksUnmade c (Nack d) past = Once (λ x earlier. tells_made x.event c ≡ true) past → ⊥
NacksUnmade c e past = ⊤

-- the peer closed the connection then
pub record IsClosing (c : Conn) (x : Happened) : Type 0 where
  pub actions : List Action
  pub did : x.did ≡ Some actions
  pub closes : StandsAmong actions (Close c)

-- or it was told that it couldn't be made, or has ended
pub record HasEnded (c : Conn) (x : Happened) : Type 0 where
  pub actions : List Action
  pub did : x.did ≡ Some actions
  pub ends : event_ends x.event c ≡ true

-- the connection has ended, by a Close, its disconnect or its Nack, and no event since then names it
abbrev pub EndedSince : Conn → List Happened → Type 0
EndedSince c [] = ⊥
EndedSince c (x ∷ past) =
    IsClosing c x ⊎ (HasEnded c x × NacksUnmade c x.event past)
    ⊎ ((names_conn x.event c ≡ false) × EndedSince c past)
