-- Each call of a node as steps of its history: what an order, a turn, a neighbour more or one less comes to (RFC 6733,
-- 5.6).
use Rattle.std.specs.Prelude.{ℕ, cond, is_some, Option, None, Some, List, [], ◌∷◌, ◌++◌, length}
use Rattle.dm_machine.specs.declared.connection.Conn.{Conn}
use Rattle.dm_peer.specs.declared.actions.Action.{Action}
use Rattle.dm_peer.specs.declared.config.Config.{Config}
use Rattle.dm_peer.specs.declared.peer.Peer.{Peer}
use Rattle.dm_peer.specs.Events.{PeerEvent, Arrived}
use Rattle.dm_node.specs.Adding.{with_new}
use Rattle.dm_node.specs.Emptying.{without_peer}
use Rattle.dm_node.specs.Holding.{peer_at}
use Rattle.dm_node.specs.NodeHistory.{NodeStep, WasAdded, WasTold, MovedNobody, WasRemoved, WasSetBack, AllWereSetBack}
use Rattle.dm_node.specs.NodeHistory.{NodeBecame}
use Rattle.dm_node.specs.NodeOrders.{NodeTakes, event_ordered}
use Rattle.dm_node.specs.NodeStates.{NodeState, NodeAnswer, NodeTurn, NodeTellsNext}
use Rattle.dm_node.specs.Policies.{Policy}
use Rattle.dm_node.specs.Telling.{told_of}
use Rattle.dm_node.specs.declared.events.NodeEvent.{NodeEvent}
use Rattle.dm_node.specs.declared.order.Order.{Order}
use Rattle.dm_node.specs.declared.order.Order.TheVariants as order

-- whatever happened before, these steps lead on from these neighbours to those
abbrev pub LeadTo : List NodeStep → List (Option Peer) → List (Option Peer) → Type 0
LeadTo steps ps qs = (past : List NodeStep) → NodeBecame past ps → NodeBecame (steps ++ past) qs

-- an event moved nobody; or the neighbour of this number was told it, and where there was none one was added before
abbrev pub told_steps : List (Option Peer) → Option ℕ → PeerEvent → List Action → List NodeStep
told_steps ps None e actions = MovedNobody ∷ []
told_steps ps (Some i) e actions =
    cond (is_some (peer_at ps i)) (WasTold i e actions ∷ []) (WasTold i e actions ∷ WasAdded i ∷ [])

-- what was told, if anything was
abbrev pub asked_steps : Option NodeEvent → NodeState → Option NodeAnswer → List NodeStep
asked_steps None s asks = []
asked_steps (Some e) s None = []
asked_steps (Some e) s (Some answer) = told_steps s.peers answer.neighbour (told_of e) answer.actions

-- an order sets one neighbour back, or each, or is the event that it tells
abbrev pub order_steps : Order → NodeState → Option NodeAnswer → List NodeStep
order_steps (order.Reset n) s asks = WasSetBack n ∷ []
order_steps order.ResetAll s asks = AllWereSetBack ∷ []
order_steps o s asks = asked_steps (event_ordered o s) s asks

abbrev pub OrderIsSteps : Type 0
OrderIsSteps =
    (o : Order) (s t : NodeState) (asks : Option NodeAnswer) → NodeTakes o s asks t
    → LeadTo (order_steps o s asks) s.peers t.peers

-- a turn is its message, or at a fault no octets, as an event
pub record IsOneEvent (c : Conn) (s : NodeState) (answer : NodeAnswer) (t : NodeState) : Type 0 where
  pub octets : List ℕ
  pub leads : LeadTo (told_steps s.peers answer.neighbour (Arrived c octets) answer.actions) s.peers t.peers

abbrev pub TurnIsSteps : Type 0
TurnIsSteps =
    (policy : Policy) (c : Conn) (s t : NodeState) (turn : NodeTurn) → NodeTellsNext policy c s turn t
    → IsOneEvent c s turn.answer t

abbrev pub AddingIsAStep : Type 0
AddingIsAStep = (ps : List (Option Peer)) (config : Config) → LeadTo (WasAdded (length ps) ∷ []) ps (with_new ps config)

abbrev pub RemovingIsAStep : Type 0
RemovingIsAStep = (ps : List (Option Peer)) (i : ℕ) → LeadTo (WasRemoved i ∷ []) ps (without_peer ps i)
