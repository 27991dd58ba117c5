-- What has happened to one peer, whatever the other side is: the events that it was told, the latest first, with what
-- it did at each. A history begins with a new peer: `Peer::new` gives one with the configuration's first number, and
-- `Peer::reset` leaves one with the number that comes next. A call of `Peer::on` that answers Ok makes the step that
-- its clause `acts` tells; one that answers Err leaves the peer as it was, as its clause `unchanged` tells. The
-- functions of src/calls.rt show it.
use Rattle.std.specs.Prelude.{◌≡◌, ◌⊎◌, ℕ, Option, None, Some, List, [], ◌∷◌}
pub use Rattle.dm_machine.specs.Ordered.{StandsAmong}
use Rattle.dm_peer.specs.declared.actions.Action.{Action}
use Rattle.dm_peer.specs.declared.config.Config.{Config}
use Rattle.dm_peer.specs.declared.peer.Peer.{Peer}
use Rattle.dm_peer.specs.Events.{PeerEvent}
use Rattle.dm_peer.specs.After.{fresh_standing}
use Rattle.dm_peer.specs.Acts.{Moved, acts}

-- an event, and what the peer did at it, in order; nothing where it was refused
pub record Happened : Type 0 where
  pub event : PeerEvent
  pub did : Option (List Action)

abbrev pub done_at : PeerEvent → List Action → Happened
done_at e actions = record { event = e; did = Some actions }

abbrev pub declined_at : PeerEvent → Happened
declined_at e = record { event = e; did = None }

abbrev pub new_peer : Config → ℕ → Peer
new_peer config next = record { config = config; standing = fresh_standing next }

-- the first peer, told these events, is this one then; an event that is refused, by rule or for want of memory, changes
-- nothing
pub data Became (first : Peer) : List Happened → Peer → Type 0 where
  untold : Became first [] first
  done : (past : List Happened) (p : Peer) (e : PeerEvent) (actions : List Action) (next : Peer) →
      Became first past p → acts p e ≡ Moved actions next → Became first (done_at e actions ∷ past) next
  declined : (past : List Happened) (p : Peer) (e : PeerEvent) →
      Became first past p → Became first (declined_at e ∷ past) p

-- at one of the events, with it and those before it, this holds
abbrev pub Once : (Happened → List Happened → Type 0) → List Happened → Type 0
Once P [] = ⊥
Once P (x ∷ past) = P x past ⊎ Once P past
