-- What holds of a node, whatever is done: each connection that a neighbour holds is there, and takes longer messages
-- where the neighbour is open.
use Rattle.std.specs.Prelude.{◌≡◌, ◌&&◌, ℕ, Bool, true, false, Option, None, Some, List}
use Rattle.dm_machine.specs.declared.connection.Conn.{Conn}
use Rattle.dm_machine.specs.Moves.{is_open}
use Rattle.dm_node.specs.Holding.{peer_at, holds, holds_at}
use Rattle.dm_peer.specs.declared.peer.Peer.{Peer}
use Rattle.dm_peer.specs.Kept.{IsKept}
use Rattle.dm_slots.specs.Intakes.{Intake, Intakes, is_there}

-- each connection that a neighbour holds is there
abbrev pub AllHeldAreThere : List (Option Peer) → Intakes → Type 0
AllHeldAreThere ps f = (i : ℕ) (c : Conn) → holds_at ps c i ≡ true → is_there c.0 f ≡ true

-- the neighbour, where there is one, is open (RFC 6733, 5.6: R-Open, I-Open) and holds the connection
abbrev pub is_open_with : Conn → Option Peer → Bool
is_open_with c None = false
is_open_with c (Some p) = is_open p.standing.core.state && holds c p

-- the greatest Message Length on a connection, where it is there; else the other
abbrev pub max_or : ℕ → Option Intake → ℕ
max_or other None = other
max_or other (Some i) = i.max

-- a connection, where it is there, takes messages of at most so many octets
abbrev pub TakesUpTo : ℕ → Option Intake → Type 0
TakesUpTo most o = max_or most o ≡ most

-- each connection that an open neighbour holds takes longer messages (5.3)
abbrev pub AreRaised : ℕ → List (Option Peer) → Intakes → Type 0
AreRaised most ps f = (i : ℕ) (c : Conn) → is_open_with c (peer_at ps i) ≡ true → TakesUpTo most (f c.0)

-- each neighbour is what events make of a new peer, as far as its numbers and what it waits for
abbrev pub AreKept : List (Option Peer) → Type 0
AreKept ps = (i : ℕ) (p : Peer) → peer_at ps i ≡ Some p → IsKept p
