-- A peer, what it is told and what it does, under other numbers of connections.
use Rattle.std.specs.Prelude.{◌≡◌, ℕ, List, map}
use Rattle.dm_peer.specs.declared.actions.Action.{Action}
use Rattle.dm_peer.specs.declared.actions.Action.TheVariants.{Connect, Send, Close, Up}
use Rattle.dm_peer.specs.declared.standing.Standing.{Standing}
use Rattle.dm_peer.specs.declared.peer.Peer.{Peer}
use Rattle.dm_peer.specs.Events.{PeerEvent, Start, Ack, Nack, Arrived, Gone}
use Rattle.dm_peer.specs.Acts.{Outcome, Moved, Refused, acts, standing_at}
use Rattle.dm_two_nodes.specs.Numbering.{IsOneToOne, renumbered, renumbered_node}

abbrev pub renumbered_event : (ℕ → ℕ) → PeerEvent → PeerEvent
renumbered_event f (Start c) = Start (renumbered f c)
renumbered_event f (Ack c) = Ack (renumbered f c)
renumbered_event f (Nack c) = Nack (renumbered f c)
renumbered_event f (Arrived c s) = Arrived (renumbered f c) s
renumbered_event f (Gone c) = Gone (renumbered f c)
renumbered_event f e = e

abbrev pub renumbered_action : (ℕ → ℕ) → Action → Action
renumbered_action f (Connect c) = Connect (renumbered f c)
renumbered_action f (Send c s) = Send (renumbered f c) s
renumbered_action f (Close c) = Close (renumbered f c)
renumbered_action f (Up s) = Up s

abbrev pub renumbered_actions : (ℕ → ℕ) → List Action → List Action
renumbered_actions f actions = map (renumbered_action f) actions

-- where a peer stands: its connections alone have other numbers
abbrev pub renumbered_standing : (ℕ → ℕ) → Standing → Standing
renumbered_standing f s = record s { core = renumbered_node f s.core }

abbrev pub renumbered_peer : (ℕ → ℕ) → Peer → Peer
renumbered_peer f p = standing_at p (renumbered_standing f p.standing)

abbrev pub renumbered_acts : (ℕ → ℕ) → Outcome → Outcome
renumbered_acts f (Moved actions p) = Moved (renumbered_actions f actions) (renumbered_peer f p)
renumbered_acts f (Refused fault) = Refused fault

-- a peer asks nothing of a number but which connection it is: a driver may number connections as it likes
abbrev pub PeersGoByNoNumber : Type 0
PeersGoByNoNumber =
    (f : ℕ → ℕ) (p : Peer) (e : PeerEvent) → IsOneToOne f →
    acts (renumbered_peer f p) (renumbered_event f e) ≡ renumbered_acts f (acts p e)
