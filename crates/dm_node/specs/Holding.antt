-- Which neighbour holds a connection, and which has a host.
use Rattle.std.specs.Prelude.{◌≡◌, ℕ, Bool, true, false, Option, None, Some, List, slice_get}
use Rattle.std.specs.Option.{option_flatten}
use Rattle.dm_base.specs.Before.{lower}
use Rattle.dm_machine.specs.declared.connection.Conn.{Conn}
use Rattle.dm_machine.specs.Connection.{hold_of}
use Rattle.dm_machine.specs.Upward.{is_open_hold}
use Rattle.dm_peer.specs.declared.peer.Peer.{Peer}
pub use Rattle.dm_peer.specs.Holding.{is_held, holds}

-- the neighbour of a number; none where there never was one, or it was removed
abbrev pub peer_at : List (Option Peer) → ℕ → Option Peer
peer_at ps i = option_flatten (slice_get ps i)

abbrev pub holds_it : Conn → Option Peer → Bool
holds_it c None = false
holds_it c (Some p) = holds c p

-- the neighbour of a number holds the connection
abbrev pub holds_at : List (Option Peer) → Conn → ℕ → Bool
holds_at ps c i = holds_it c (peer_at ps i)

abbrev pub is_opened_on : Conn → Option Peer → Bool
is_opened_on c None = false
is_opened_on c (Some p) = is_open_hold (hold_of p.standing.core c)

-- the neighbour of a number is open on the connection (RFC 6733, 5.6: R-Open, I-Open)
abbrev pub is_open_at : List (Option Peer) → Conn → ℕ → Bool
is_open_at ps c i = is_opened_on c (peer_at ps i)

abbrev pub host_of : Option Peer → Option (List ℕ)
host_of None = None
host_of (Some p) = Some (lower p.config.peer)

-- the host of the neighbour of a number, in lower case
abbrev pub host_at : List (Option Peer) → ℕ → Option (List ℕ)
host_at ps i = host_of (peer_at ps i)

-- no connection is held by two neighbours
pub record AreApart (ps : List (Option Peer)) : Type 0 where
  pub one : (i j : ℕ) (c : Conn) → holds_at ps c i ≡ true → holds_at ps c j ≡ true → i ≡ j

-- no two neighbours have one host
pub record AreUnlike (ps : List (Option Peer)) : Type 0 where
  pub one : (i j : ℕ) (h : List ℕ) → host_at ps i ≡ Some h → host_at ps j ≡ Some h → i ≡ j

-- some neighbour has this host, upper and lower case taken as one
pub record IsKnown (ps : List (Option Peer)) (host : List ℕ) : Type 0 where
  pub number : ℕ
  pub named : host_at ps number ≡ Some (lower host)
