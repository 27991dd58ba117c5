-- The orders of who drives a node, and what each comes to.
use Rattle.std.specs.Prelude.{◌≡◌, ◌⊎◌, ℕ, cond, true, false, Option, None, Some, Result, Err, IfErr, OnOk, OnErr}
use Rattle.std.specs.Prelude.{List, [], ◌∷◌, ◌++◌, All, ⊤}
use Rattle.dm_machine.specs.declared.connection.Conn.{Conn}
use Rattle.dm_node.specs.declared.events.NodeEvent.{NodeEvent}
use Rattle.dm_node.specs.declared.events.NodeEvent.TheVariants as event
use Rattle.dm_node.specs.declared.fault.OrderFault.{OrderFault}
use Rattle.dm_node.specs.declared.fault.OrderFault.TheVariants as fault
use Rattle.dm_peer.specs.declared.fault.PeerFault.{PeerFault}
use Rattle.dm_peer.specs.declared.fault.PeerFault.TheVariants.{NoMemory}
use Rattle.dm_node.specs.Answers.{asks_of}
use Rattle.dm_node.specs.Declining.{IsRuledOut, IsDirected, IsByRule, IsDeclinedHere, EventTakesMemory}
use Rattle.dm_node.specs.Emptying.{without_peer, with_set_back, all_set_back}
use Rattle.dm_node.specs.Holding.{peer_at, holds_it, holds_at}
use Rattle.dm_node.specs.NodeKnown.{KnownAfterOrder}
use Rattle.dm_node.specs.NodeSeen.{node_state_of, node_known_of}
use Rattle.dm_node.specs.Policies.{no_strangers}
use Rattle.dm_node.specs.Telling.{Concerns, IsFree, IsMisdirected, told_of}
use Rattle.dm_peer.specs.declared.actions.Action.{Action}
use Rattle.dm_peer.specs.declared.actions.Action.TheVariants.{Close}
use Rattle.dm_peer.specs.declared.peer.Peer.{Peer}
use Rattle.dm_peer.specs.Spelled.{SendsSpelling}
use Rattle.dm_slots.specs.Intakes.{Intakes, none_there, is_there, opened, taken_down}
use Rattle.dm_slots.specs.Raised.{own_of, other_of}
use Rattle.dm_node.specs.declared.answer.Answer.{Answer}
use Rattle.dm_node.specs.declared.node.Node as declared
use Rattle.dm_node.specs.declared.order.Order.{Order}
use Rattle.dm_node.specs.declared.order.Order.TheVariants as order
use Rattle.dm_node.specs.NodeStates.{NodeState, NodeAnswer, NodeTells, with_node_intakes}

-- an event is told, and this is what it asks for
abbrev pub NodeTellsOnce : NodeEvent → NodeState → Option NodeAnswer → NodeState → Type 0
NodeTellsOnce e s asks t = (answer : NodeAnswer) × (asks ≡ Some answer) × NodeTells e s answer t

-- nothing is told
abbrev pub NodeTellsNothing : NodeState → Option NodeAnswer → NodeState → Type 0
NodeTellsNothing s asks t = (asks ≡ None) × (t ≡ s)

-- an event of connection c is told where that is there
abbrev pub NodeTellsIfThere : Conn → NodeEvent → NodeState → Option NodeAnswer → NodeState → Type 0
NodeTellsIfThere c e s asks t =
    cond (is_there c.0 s.intakes) (NodeTellsOnce e s asks t) (NodeTellsNothing s asks t)

-- connection c is there, as it was or as a new one; it is no more there
abbrev pub node_opened : Conn → NodeState → NodeState
node_opened c s = with_node_intakes (opened s.first_max c.0 s.intakes) s

abbrev pub node_shut : Conn → NodeState → NodeState
node_shut c s = with_node_intakes (taken_down c.0 s.intakes) s

-- connection c is no more there, but where a neighbour still holds it
abbrev pub ShutsUnheld : Conn → NodeState → NodeState → Type 0
ShutsUnheld c s t =
    ((i : ℕ) × (holds_at s.peers c i ≡ true) × (t ≡ s)) ⊎ (IsFree s.peers c × (t ≡ node_shut c s))

-- A connection that was asked for can't be made: it is told, and then it is no more there, unless a neighbour holds it.
abbrev pub NodeTellsNack : Conn → NodeState → Option NodeAnswer → NodeState → Type 0
NodeTellsNack c s asks t = (m : NodeState) × NodeTellsIfThere c (event.Nack c) s asks m × ShutsUnheld c m t

-- an event of connection c is told, and then that is no more there
abbrev pub NodeTellsEnd : Conn → NodeEvent → NodeState → Option NodeAnswer → NodeState → Type 0
NodeTellsEnd c e s asks t = (m : NodeState) × NodeTellsIfThere c e s asks m × (t ≡ node_shut c m)

-- a number that is in use isn't started again
abbrev pub NodeTellsStart : ℕ → Conn → NodeState → Option NodeAnswer → NodeState → Type 0
NodeTellsStart n c s asks t =
    cond (is_there c.0 s.intakes) (NodeTellsNothing s asks t)
    (NodeTellsOnce (event.Start n c) (node_opened c s) asks t)

-- what a neighbour holds is no more there
abbrev pub left_by_peer : Option Peer → Intakes → Intakes
left_by_peer p f c = cond (holds_it (record { 0 = c }) p) None (f c)

-- the neighbour of the number is Closed, and what it held is no more there
abbrev pub node_set_back : ℕ → NodeState → NodeState
node_set_back n s =
    record {
      node = s.node;
      peers = with_set_back s.peers n;
      intakes = left_by_peer (peer_at s.peers n) s.intakes;
      first_max = s.first_max;
      most = s.most;
    }

-- each neighbour is Closed, and no connection is there
abbrev pub node_closed : NodeState → NodeState
node_closed s =
    record {
      node = s.node;
      peers = all_set_back s.peers;
      intakes = none_there;
      first_max = s.first_max;
      most = s.most;
    }

-- nobody has the number any more, and what its neighbour held is no more there
abbrev pub node_without : ℕ → NodeState → NodeState
node_without n s =
    record {
      node = s.node;
      peers = without_peer s.peers n;
      intakes = left_by_peer (peer_at s.peers n) s.intakes;
      first_max = s.first_max;
      most = s.most;
    }

-- the connections that a peer holds are closed, the one that it opened first
abbrev pub close_if_any : Option Conn → List Action
close_if_any None = []
close_if_any (Some c) = Close c ∷ []

abbrev pub closes_of : Peer → List Action
closes_of p = close_if_any (own_of p) ++ close_if_any (other_of p)

-- what is closed where the neighbour goes that may be at a place
abbrev pub closes_of_any : Option Peer → List Action
closes_of_any None = []
closes_of_any (Some p) = closes_of p

-- What an order asks for, None where no event is told, and where it leaves the node. Of a connection that isn't there
-- nothing is told.
abbrev pub NodeTakes : Order → NodeState → Option NodeAnswer → NodeState → Type 0
NodeTakes (order.Start n c) s asks t = NodeTellsStart n c s asks t
NodeTakes (order.Ack c) s asks t = NodeTellsIfThere c (event.Ack c) s asks t
NodeTakes (order.Nack c) s asks t = NodeTellsNack c s asks t
NodeTakes (order.Accept c) s asks t = NodeTellsNothing (node_opened c s) asks t
NodeTakes (order.Gone c) s asks t = NodeTellsEnd c (event.Gone c) s asks t
NodeTakes (order.Timeout n) s asks t = NodeTellsOnce (event.Timeout n) s asks t
NodeTakes (order.Tick n) s asks t = NodeTellsOnce (event.Tick n) s asks t
NodeTakes (order.Stop n cause) s asks t = NodeTellsOnce (event.Stop n cause) s asks t
NodeTakes (order.Submit n octets) s asks t = NodeTellsOnce (event.Submit n octets) s asks t
NodeTakes (order.Reset n) s asks t = NodeTellsNothing (node_set_back n s) asks t
NodeTakes order.ResetAll s asks t = NodeTellsNothing (node_closed s) asks t

-- the event is misdirected, or the neighbour that it concerns refuses it
abbrev pub NodeRefusesOnce : NodeEvent → NodeState → OrderFault → Type 0
NodeRefusesOnce e s f = IsDeclinedHere no_strangers s.peers e f

-- the neighbour that holds connection c, which is there, refuses an event of it
abbrev pub NodeRefusesIfThere : Conn → NodeEvent → NodeState → OrderFault → Type 0
NodeRefusesIfThere c e s f = (is_there c.0 s.intakes ≡ true) × NodeRefusesOnce e s f

-- Why an order is refused: where its event is. Where none is told there is nothing to refuse.
abbrev pub NodeRefuses : Order → NodeState → OrderFault → Type 0
NodeRefuses (order.Start n c) s f = (is_there c.0 s.intakes ≡ false) × NodeRefusesOnce (event.Start n c) s f
NodeRefuses (order.Ack c) s f = NodeRefusesIfThere c (event.Ack c) s f
NodeRefuses (order.Nack c) s f = NodeRefusesIfThere c (event.Nack c) s f
NodeRefuses (order.Accept c) s f = ⊥
NodeRefuses (order.Gone c) s f = NodeRefusesIfThere c (event.Gone c) s f
NodeRefuses (order.Timeout n) s f = NodeRefusesOnce (event.Timeout n) s f
NodeRefuses (order.Tick n) s f = NodeRefusesOnce (event.Tick n) s f
NodeRefuses (order.Stop n cause) s f = NodeRefusesOnce (event.Stop n cause) s f
NodeRefuses (order.Submit n octets) s f = NodeRefusesOnce (event.Submit n octets) s f
NodeRefuses (order.Reset n) s f = ⊥
NodeRefuses order.ResetAll s f = ⊥

-- an event of connection c is told where that is there, a Start where it isn't
abbrev pub told_there : Conn → NodeEvent → NodeState → Option NodeEvent
told_there c e s = cond (is_there c.0 s.intakes) (Some e) None

abbrev pub start_told : ℕ → Conn → NodeState → Option NodeEvent
start_told n c s = cond (is_there c.0 s.intakes) None (Some (event.Start n c))

-- the event that an order tells, where it tells one
abbrev pub event_ordered : Order → NodeState → Option NodeEvent
event_ordered (order.Start n c) s = start_told n c s
event_ordered (order.Ack c) s = told_there c (event.Ack c) s
event_ordered (order.Nack c) s = told_there c (event.Nack c) s
event_ordered (order.Gone c) s = told_there c (event.Gone c) s
event_ordered (order.Timeout n) s = Some (event.Timeout n)
event_ordered (order.Tick n) s = Some (event.Tick n)
event_ordered (order.Stop n cause) s = Some (event.Stop n cause)
event_ordered (order.Submit n octets) s = Some (event.Submit n octets)
event_ordered o s = None

-- what an order's event takes, where it tells one
abbrev pub ToldTakesMemory : Option NodeEvent → NodeState → Type 0
ToldTakesMemory None s = ⊥
ToldTakesMemory (Some e) s = EventTakesMemory no_strangers s.peers e

-- what an order comes to takes memory: a connection that is new, or what the neighbour sends or hands up that its event
-- concerns
abbrev pub OrderTakesMemory : Order → NodeState → Type 0
OrderTakesMemory (order.Start n c) s = is_there c.0 s.intakes ≡ false
OrderTakesMemory (order.Accept c) s = is_there c.0 s.intakes ≡ false
OrderTakesMemory o s = ToldTakesMemory (event_ordered o s) s

-- but for want of memory an order whose event is misdirected, or is ruled out, is refused so, and no other is
pub record OrderGoesByRules (told : Option NodeEvent) (ps : List (Option Peer)) (result : Result ⊤ OrderFault) : Type 0
  where
    pub misdirected : (e : NodeEvent) (f : OrderFault) → told ≡ Some e → IsMisdirected ps e f → result ≡ Err f
    pub refuses : (e : NodeEvent) (i : ℕ) (f : PeerFault) → told ≡ Some e → IsDirected ps e
        → Concerns no_strangers ps e i → IsRuledOut ps i (told_of e) f → result ≡ Err (fault.Peer f)
    pub ruled : IfErr result (λ f. (f ≡ fault.Peer NoMemory)
        ⊎ ((e : NodeEvent) × (told ≡ Some e) × IsByRule no_strangers ps e f))

-- An order, or a part of one, is taken or refused: what it takes, why it is refused, the event that it tells, if any,
-- and when memory is wanted. Where it is refused the node is as it was.
pub record IsTakenOrRefused (Takes : NodeState → Option NodeAnswer → NodeState → Type 0)
    (Refuses : NodeState → OrderFault → Type 0) (event_of : NodeState → Option NodeEvent)
    (TakesMemory : NodeState → Type 0) (s : declared.Node) (result : Result ⊤ OrderFault) (answer : Answer)
    (t : declared.Node) : Type 0 where
  pub taken : OnOk result (Takes (node_state_of s) (asks_of answer) (node_state_of t))
  pub refused : IfErr result (λ f. (f ≡ fault.Peer NoMemory) ⊎ Refuses (node_state_of s) f)
  pub unchanged : OnErr result (node_state_of t ≡ node_state_of s)
  pub met : OnOk result (KnownAfterOrder (asks_of answer) (node_state_of s) (node_state_of t) (node_known_of s)
      (node_known_of t))
  pub same : OnErr result (node_known_of t ≡ node_known_of s)
  pub rules : OrderGoesByRules (event_of (node_state_of s)) s.neighbours result
  pub memory : result ≡ Err (fault.Peer NoMemory) → TakesMemory (node_state_of s)
  pub spelled : OnOk result (All SendsSpelling answer.actions.items)

abbrev pub OrderIsTakenOrRefused : Order → declared.Node → Result ⊤ OrderFault → Answer → declared.Node → Type 0
OrderIsTakenOrRefused o s result answer t =
    IsTakenOrRefused (NodeTakes o) (NodeRefuses o) (event_ordered o) (OrderTakesMemory o) s result answer t
