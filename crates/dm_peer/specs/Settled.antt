-- What holds of a peer after every list of events, from Closed on: what it waits for goes by its state.
use Rattle.std.specs.Prelude.{⊤, ℕ}
use Rattle.dm_peer.specs.declared.config.Config.{Config}
use Rattle.dm_peer.specs.declared.peer.Peer.{Peer}
use Rattle.dm_peer.specs.Events.{PeerEvent}
use Rattle.dm_peer.specs.After.{fresh_standing}
use Rattle.dm_peer.specs.KeptAt.{IsSettledAt}
use Rattle.dm_peer.specs.Acts.{Outcome, Moved, Refused, acts}

abbrev pub IsSettled : Peer → Type 0
IsSettled p = IsSettledAt p.standing

-- a new peer is, and so is one after `reset`
abbrev pub FreshIsSettled : Type 0
FreshIsSettled = (c : Config) (next : ℕ) → IsSettled (record { config = c; standing = fresh_standing next })

abbrev pub LeavesSettled : Outcome → Type 0
LeavesSettled (Moved actions next) = IsSettled next
LeavesSettled (Refused f) = ⊤

abbrev pub EachEventKeepsSettled : Type 0
EachEventKeepsSettled = (p : Peer) (e : PeerEvent) → IsSettled p → LeavesSettled (acts p e)
