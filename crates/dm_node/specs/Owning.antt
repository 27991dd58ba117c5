-- Whose each connection is: of the neighbour that holds it.
use Rattle.std.specs.Prelude.{◌≡◌, ℕ, Bool, true, false, ◌||◌, Option, None, Some, List, if◌then◌else◌}
use Rattle.dm_machine.specs.declared.connection.Conn.{Conn}
use Rattle.dm_peer.specs.declared.actions.Action.{Action}
use Rattle.dm_peer.specs.declared.peer.Peer.{Peer}
use Rattle.dm_peer.specs.Places.{is_on}
use Rattle.dm_slots.specs.Held.{Owners}
use Rattle.dm_slots.specs.Intakes.{Intakes, actions_close, raised_at}
use Rattle.dm_slots.specs.Raised.{own_of, other_of}
use Rattle.dm_node.specs.declared.owners.Holding.{Holding}
use Rattle.dm_node.specs.Holding.{peer_at, holds_it, holds_at}
use Rattle.dm_node.specs.NodeHeld.{TakesUpTo}
use Rattle.dm_node.specs.NodeStates.{raised_for}

-- the connections that a neighbour initiated and accepted, where there is one
abbrev pub initiated_of : Option Peer → Option Conn
initiated_of None = None
initiated_of (Some p) = own_of p

abbrev pub accepted_of : Option Peer → Option Conn
accepted_of None = None
accepted_of (Some p) = other_of p

-- the connection is one of those that a peer holds
abbrev pub has : Holding → Conn → Bool
has held c = is_on held.initiated c || is_on held.accepted c

-- one connection and no other, whichever side opened it
abbrev pub one_held : Conn → Holding
one_held conn = record { initiated = Some conn; accepted = None }

-- whose it is where what a peer held is nobody's and what it holds is of the neighbour of this number
abbrev pub owned_after : Owners → Holding → Holding → ℕ → Conn → Option ℕ
owned_after f before after n c = if has after c then Some n else (if has before c then None else f c.0)

-- each connection is of the neighbour that holds it, and no other is anybody's
pub record AreOwned (f : Owners) (ps : List (Option Peer)) : Type 0 where
  pub holds : (c : Conn) (i : ℕ) → f c.0 ≡ Some i → holds_at ps c i ≡ true
  pub owned : (c : Conn) (i : ℕ) → holds_at ps c i ≡ true → f c.0 ≡ Some i

-- one neighbour holds other connections than it did, and the others are what they were
pub record IsResettled (ps qs : List (Option Peer)) (i : ℕ) (before : Holding) : Type 0 where
  pub held : (c : Conn) → has before c ≡ holds_at ps c i
  pub others : (j : ℕ) → (j ≡ i → ⊥) → peer_at qs j ≡ peer_at ps j

-- so it is behind an event of this neighbour; where nobody was told it all are what they were
abbrev pub IsReowned : List (Option Peer) → List (Option Peer) → Option ℕ → Holding → Type 0
IsReowned ps qs None before = qs ≡ ps
IsReowned ps qs (Some i) before = IsResettled ps qs i before

-- a neighbour is open on the connection that it held before, and holds no other, and this takes messages of at most so
-- many octets; the actions close none: nothing is left to settle
pub record IsOpenAsBefore (most : ℕ) (f : Intakes) (before : Holding) (actions : List Action) (o : Option Peer)
    : Type 0 where
  pub conn : Conn
  pub only : before ≡ one_held conn
  pub held : (c : Conn) → has (one_held conn) c ≡ holds_it c o
  pub raised : (g : Intakes) → raised_for most o g ≡ raised_at most (Some conn) g
  pub takes : TakesUpTo most (f conn.0)
  pub unclosed : (c : Conn) → actions_close actions c.0 ≡ false
