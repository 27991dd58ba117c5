-- What holds of a node whatever comes (RFC 6733, 5.6).
use Rattle.std.specs.Prelude.{◌≡◌, ◌⊎◌, ℕ, true, Option, None, Some, List, [], ◌∷◌}
use Rattle.dm_machine.specs.declared.connection.Conn.{Conn}
use Rattle.dm_node.specs.declared.events.NodeEvent.{NodeEvent}
use Rattle.dm_node.specs.Holding.{peer_at, holds_at}
use Rattle.dm_node.specs.Neighbourhoods.{IsNeighbourhood}
use Rattle.dm_node.specs.Policies.{Policy, told_the_first}
use Rattle.dm_node.specs.Telling.{told_of}
use Rattle.dm_peer.specs.declared.peer.Peer.{Peer}
use Rattle.dm_peer.specs.Acts.{Moved, acts}
use Rattle.dm_peer.specs.Events.{PeerEvent, Arrived}
use Rattle.dm_peer.specs.declared.actions.Action.{Action}
use Rattle.dm_slots.specs.Intakes.{Intake, IsFirst, IsFaulty, broken_intake, with_intake}
use Rattle.dm_node.specs.NodeHeld.{AreKept}
use Rattle.dm_node.specs.NodeStates.{NodeState, NodeAnswer, NodeTurn, NodeTells, NodeTellsNext}
use Rattle.dm_node.specs.NodeStates.{node_settled, with_node_intakes}

-- what holds of the neighbours of each node: no connection is held by two, no two have one host, and each is kept
pub record AreSoundNeighbours (ps : List (Option Peer)) : Type 0 where
  pub neighbourhood : IsNeighbourhood ps
  pub kept : AreKept ps

-- a neighbour is what it was, and so is what came on each connection that it holds
pub record IsLeftAlone (j : ℕ) (s t : NodeState) : Type 0 where
  pub peer : peer_at t.peers j ≡ peer_at s.peers j
  pub came : (c : Conn) → holds_at s.peers c j ≡ true → t.intakes c.0 ≡ s.intakes c.0

-- an event leaves each neighbour alone but the one that it is told
abbrev pub EventLeavesOthers : Type 0
EventLeavesOthers =
    (e : NodeEvent) (s t : NodeState) (answer : NodeAnswer) (j : ℕ) → AreSoundNeighbours s.peers
    → AreSoundNeighbours t.peers → NodeTells e s answer t → (answer.neighbour ≡ Some j → ⊥) → IsLeftAlone j s t

-- and so does what came on a connection
abbrev pub NextLeavesOthers : Type 0
NextLeavesOthers =
    (policy : Policy) (c : Conn) (s t : NodeState) (turn : NodeTurn) (j : ℕ) → AreSoundNeighbours s.peers
    → AreSoundNeighbours t.peers → NodeTellsNext policy c s turn t → (turn.answer.neighbour ≡ Some j → ⊥)
    → IsLeftAlone j s t

-- The one neighbour does what its peer does by itself, with the same actions: what these close is no more there, and
-- what it holds takes longer messages where it is open.
abbrev pub DoesAsItsPeer : PeerEvent → Peer → NodeState → List Action → NodeState → Type 0
DoesAsItsPeer e p s actions t =
    (q : Peer) × (acts p e ≡ Moved actions q) × (t ≡ node_settled (Some 0) (Some q ∷ []) actions s)

-- A node of one neighbour does at the event of an order what its peer does; or the event concerns nobody, the peer does
-- nothing at it, and neither did the node.
abbrev pub OneDoesAsItsPeer : Type 0
OneDoesAsItsPeer =
    (e : NodeEvent) (p : Peer) (s t : NodeState) (answer : NodeAnswer) → AreSoundNeighbours s.peers
    → ((c : Conn) (octets : List ℕ) → told_of e ≡ Arrived c octets → ⊥)
    → s.peers ≡ Some p ∷ [] → NodeTells e s answer t
    → ((answer.neighbour ≡ Some 0) × DoesAsItsPeer (told_of e) p s answer.actions t)
    ⊎ ((answer.neighbour ≡ None) × (answer.actions ≡ []) × (t ≡ s) × (acts p (told_of e) ≡ Moved [] p))

-- the first message that came on connection c is told as it stands
pub record TurnsAtMessage (c : Conn) (p : Peer) (s : NodeState) (actions : List Action) (t : NodeState) : Type 0
  where
    pub intake : Intake
    pub message : List ℕ
    pub rest : List ℕ
    pub there : s.intakes c.0 ≡ Some intake
    pub first : IsFirst intake message rest
    pub told : DoesAsItsPeer (Arrived c message) p
        (with_node_intakes (with_intake c.0 (Some (record intake { octets = rest })) s.intakes) s) actions t

-- or the fault of its stream, as octets that spell no message, and what came is thrown away
pub record TurnsAtFault (c : Conn) (p : Peer) (s : NodeState) (actions : List Action) (t : NodeState) : Type 0 where
  pub intake : Intake
  pub there : s.intakes c.0 ≡ Some intake
  pub faulty : IsFaulty intake
  pub told : DoesAsItsPeer (Arrived c []) p
      (with_node_intakes (with_intake c.0 (Some (broken_intake intake)) s.intakes) s) actions t

-- one turn of a node of one neighbour is that of its peer
abbrev pub TurnsAsItsPeer : Option Conn → Conn → Peer → NodeState → List Action → NodeState → Type 0
TurnsAsItsPeer None c p s actions t = TurnsAtFault c p s actions t
TurnsAsItsPeer (Some d) c p s actions t = (d ≡ c) × TurnsAtMessage c p s actions t

-- So is each where the neighbour is the porter, whoever sends what came, and whatever that is.
abbrev pub OneTurnsAsItsPeer : Type 0
OneTurnsAsItsPeer =
    (c : Conn) (p : Peer) (s t : NodeState) (turn : NodeTurn)
    → s.peers ≡ Some p ∷ [] → NodeTellsNext told_the_first c s turn t
    → (turn.answer.neighbour ≡ Some 0) × TurnsAsItsPeer turn.arrived c p s turn.answer.actions t

-- And so is each by any policy that concerns the neighbour.
abbrev pub ConcernedTurnsAsItsPeer : Type 0
ConcernedTurnsAsItsPeer =
    (policy : Policy) (c : Conn) (p : Peer) (s t : NodeState) (turn : NodeTurn)
    → s.peers ≡ Some p ∷ [] → NodeTellsNext policy c s turn t → turn.answer.neighbour ≡ Some 0
    → TurnsAsItsPeer turn.arrived c p s turn.answer.actions t
