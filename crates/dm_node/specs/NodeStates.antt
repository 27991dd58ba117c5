-- A node of many neighbours with its connections, and what one event of it comes to (RFC 6733, 5.6).
use Rattle.std.specs.Prelude.{◌≡◌, ◌⊎◌, ℕ, Option, None, Some, IsSome, IfSome, IsTrue, List, []}
use Rattle.dm_base.specs.declared.node.Node.{Node}
use Rattle.dm_machine.specs.declared.connection.Conn.{Conn}
use Rattle.dm_node.specs.Calling.{caller_of}
use Rattle.dm_node.specs.Holding.{peer_at}
use Rattle.dm_node.specs.Policies.{Policy, no_strangers}
use Rattle.dm_node.specs.Strangers.{NodeMoves, NodeIsTold}
use Rattle.dm_node.specs.Telling.{IsAddressed}
use Rattle.dm_node.specs.declared.events.NodeEvent.{NodeEvent}
use Rattle.dm_peer.specs.declared.actions.Action.{Action}
use Rattle.dm_peer.specs.declared.peer.Peer.{Peer}
use Rattle.dm_peer.specs.Acts.{acts, wants_memory}
use Rattle.dm_peer.specs.Events.{Arrived}
use Rattle.dm_slots.specs.Intakes.{Intake, Intakes, IsFirst, IsFaulty, IsToldOut, with_intake, changed, fed_intake}
use Rattle.dm_slots.specs.Intakes.{unfed_intake, broken_intake, left_by}
use Rattle.dm_slots.specs.Raised.{raised}

-- the node that answers strangers, its neighbours in order of adding, its connections, and the greatest Message Lengths
-- before the capabilities exchange and behind it
pub record NodeState : Type 0 where
  pub node : Node
  pub peers : List (Option Peer)
  pub intakes : Intakes
  pub first_max : ℕ
  pub most : ℕ

-- what one event asked for, and of which neighbour; of none at a stranger
pub record NodeAnswer : Type 0 where
  pub neighbour : Option ℕ
  pub actions : List Action

-- and of a whole message, the connection on which it came
pub record NodeTurn : Type 0 where
  pub arrived : Option Conn
  pub answer : NodeAnswer

-- the neighbour that was concerned, if one was
abbrev pub concerned_in : List (Option Peer) → Option ℕ → Option Peer
concerned_in ps None = None
concerned_in ps (Some i) = peer_at ps i

-- behind the capabilities exchange the connection that a neighbour holds takes longer messages (5.3)
abbrev pub raised_for : ℕ → Option Peer → Intakes → Intakes
raised_for most None f = f
raised_for most (Some p) f = raised most p f

-- the node with other intakes, and with other neighbours
abbrev pub with_node_intakes : Intakes → NodeState → NodeState
with_node_intakes f s =
    record { node = s.node; peers = s.peers; intakes = f; first_max = s.first_max; most = s.most }

abbrev pub with_node_peers : List (Option Peer) → NodeState → NodeState
with_node_peers qs s =
    record { node = s.node; peers = qs; intakes = s.intakes; first_max = s.first_max; most = s.most }

-- the node behind an event that led its neighbours to qs: what the actions close is no more there, and what the
-- neighbour that it concerned holds takes longer messages where that is open
abbrev pub node_settled : Option ℕ → List (Option Peer) → List Action → NodeState → NodeState
node_settled who qs actions s =
    record {
      node = s.node;
      peers = qs;
      intakes = raised_for s.most (concerned_in qs who) (left_by actions s.intakes);
      first_max = s.first_max;
      most = s.most;
    }

-- a piece came on connection c
abbrev pub node_fed : Conn → List ℕ → NodeState → NodeState
node_fed c piece s = with_node_intakes (changed c.0 (fed_intake piece) s.intakes) s

-- and so many octets of it are taken away again
abbrev pub node_unfed : Conn → ℕ → NodeState → NodeState
node_unfed c n s = with_node_intakes (changed c.0 (unfed_intake n) s.intakes) s

-- The event of an order is told, and this is what it asks for. No policy concerns it, since it brings no octets.
pub record NodeTells (e : NodeEvent) (s : NodeState) (answer : NodeAnswer) (t : NodeState) : Type 0 where
  pub peers : List (Option Peer)
  pub moved : NodeIsTold no_strangers e s.node s.peers answer.neighbour answer.actions peers
  pub left : t ≡ node_settled answer.neighbour peers answer.actions s

-- octets of connection c are told by the policy
pub record NodeTellsOctets (policy : Policy) (c : Conn) (octets : List ℕ) (s : NodeState) (answer : NodeAnswer)
    (t : NodeState) : Type 0 where
  pub peers : List (Option Peer)
  pub moved : NodeMoves policy c octets s.node s.peers answer.neighbour answer.actions peers
  pub left : t ≡ node_settled answer.neighbour peers answer.actions s

-- the first message that came on connection c is told as it stands
pub record NodeTellsMessage (policy : Policy) (c : Conn) (s : NodeState) (answer : NodeAnswer) (t : NodeState)
    : Type 0 where
  pub intake : Intake
  pub message : List ℕ
  pub rest : List ℕ
  pub there : s.intakes c.0 ≡ Some intake
  pub first : IsFirst intake message rest
  pub told : NodeTellsOctets policy c message
      (with_node_intakes (with_intake c.0 (Some (record intake { octets = rest })) s.intakes) s) answer t

-- a fault in the octets of connection c is told as octets that spell no message, and what came is thrown away
pub record NodeTellsFault (policy : Policy) (c : Conn) (s : NodeState) (answer : NodeAnswer) (t : NodeState)
    : Type 0 where
  pub intake : Intake
  pub there : s.intakes c.0 ≡ Some intake
  pub faulty : IsFaulty intake
  pub told : NodeTellsOctets policy c []
      (with_node_intakes (with_intake c.0 (Some (broken_intake intake)) s.intakes) s) answer t

-- one turn of what came on connection c: its next message, or a fault
abbrev pub NodeTellsAs : Policy → Option Conn → Conn → NodeState → NodeAnswer → NodeState → Type 0
NodeTellsAs policy None c s answer t = NodeTellsFault policy c s answer t
NodeTellsAs policy (Some d) c s answer t = (d ≡ c) × NodeTellsMessage policy c s answer t

abbrev pub NodeTellsNext : Policy → Conn → NodeState → NodeTurn → NodeState → Type 0
NodeTellsNext policy c s turn t = NodeTellsAs policy turn.arrived c s turn.answer t

-- nothing is left to tell of connection c
abbrev pub NodeIsOut : Conn → NodeState → Type 0
NodeIsOut c s = IfSome (s.intakes c.0) IsToldOut

-- what is done at these octets of connection c takes memory: what the neighbour does that they concern, or what a
-- stranger's CER comes to
abbrev pub TakesMemoryAt : Policy → Conn → List ℕ → List (Option Peer) → Type 0
TakesMemoryAt policy c octets ps =
    ((i : ℕ) × (p : Peer) × IsAddressed policy ps c octets i × (peer_at ps i ≡ Some p)
    × IsTrue (wants_memory (acts p (Arrived c octets))))
    ⊎ (((i : ℕ) → IsAddressed policy ps c octets i → ⊥) × IsSome (caller_of octets))

-- the next message of connection c takes memory to be told, or the fault of its stream does
abbrev pub NodeNextTakesMemory : Policy → Conn → NodeState → Type 0
NodeNextTakesMemory policy c s =
    ((i : Intake) × (message rest : List ℕ) × (s.intakes c.0 ≡ Some i) × IsFirst i message rest
    × TakesMemoryAt policy c message s.peers)
    ⊎ ((i : Intake) × (s.intakes c.0 ≡ Some i) × IsFaulty i × TakesMemoryAt policy c [] s.peers)
