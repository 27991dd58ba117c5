-- The peer that a history leaves, by what it was told: the events that were refused change nothing.
use Rattle.std.specs.Prelude.{⊤, Option, None, Some, List, [], ◌∷◌}
use Rattle.dm_peer.specs.declared.actions.Action.{Action}
use Rattle.dm_peer.specs.declared.peer.Peer.{Peer}
use Rattle.dm_peer.specs.Events.{PeerEvent}
use Rattle.dm_peer.specs.Acts.{Outcome, Moved, Refused, acts}
use Rattle.dm_history.specs.History.{Happened}

-- the peer that an outcome leaves
abbrev pub peer_left : Peer → Outcome → Peer
peer_left p (Moved actions next) = next
peer_left p (Refused f) = p

abbrev pub peer_told : Peer → PeerEvent → Option (List Action) → Peer
peer_told p e None = p
peer_told p e (Some actions) = peer_left p (acts p e)

abbrev pub peer_after : Peer → List Happened → Peer
peer_after first [] = first
peer_after first (x ∷ past) = peer_told (peer_after first past) x.event x.did

-- a fact of a peer, an event and what the peer does at it
abbrev pub FactOfDone : Peer → (Peer → PeerEvent → List Action → Type 0) → PeerEvent → Option (List Action) → Type 0
FactOfDone p P e None = ⊤
FactOfDone p P e (Some actions) = P p e actions

-- it holds of each event of a history that was done
abbrev pub HoldsThroughout : (Peer → PeerEvent → List Action → Type 0) → Peer → List Happened → Type 0
HoldsThroughout P first [] = ⊤
HoldsThroughout P first (x ∷ past) = FactOfDone (peer_after first past) P x.event x.did × HoldsThroughout P first past
