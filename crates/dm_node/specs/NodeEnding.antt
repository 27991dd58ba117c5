-- Behind a Close of a node's connection, and behind its end, nothing is told of it (RFC 6733, 5.6).
use Rattle.std.specs.Prelude.{◌≡◌, ℕ, true, Option, None, List}
use Rattle.dm_machine.specs.declared.connection.Conn.{Conn}
use Rattle.dm_node.specs.Policies.{Policy}
use Rattle.dm_slots.specs.Intakes.{actions_close}
use Rattle.dm_node.specs.declared.order.Order.{Order}
use Rattle.dm_node.specs.declared.order.Order.TheVariants as order
use Rattle.dm_node.specs.NodeOrders.{NodeTakes}
use Rattle.dm_node.specs.NodeStates.{NodeState, NodeAnswer, NodeTurn, NodeTellsNext, node_fed}

-- behind a Close of a connection it isn't there
abbrev pub NodeCloseIsLast : Type 0
NodeCloseIsLast =
    (policy : Policy) (c d : Conn) (s t : NodeState) (turn : NodeTurn) → NodeTellsNext policy c s turn t
    → actions_close turn.answer.actions d.0 ≡ true → t.intakes d.0 ≡ None

-- the order tells what happened on connection c
abbrev pub IsOnConn : Conn → Order → Type 0
IsOnConn c (order.Ack d) = d ≡ c
IsOnConn c (order.Nack d) = d ≡ c
IsOnConn c (order.Gone d) = d ≡ c
IsOnConn c _ = ⊥

-- of a connection that isn't there nothing is told, and it stays so
abbrev pub NodeGoneIsSilent : Type 0
NodeGoneIsSilent =
    (c : Conn) (o : Order) (s t : NodeState) (asks : Option NodeAnswer) → s.intakes c.0 ≡ None → IsOnConn c o
    → NodeTakes o s asks t → (asks ≡ None) × (t.intakes c.0 ≡ None)

abbrev pub NodeGoneTellsNothing : Type 0
NodeGoneTellsNothing =
    (policy : Policy) (c : Conn) (s t : NodeState) (turn : NodeTurn) → s.intakes c.0 ≡ None
    → NodeTellsNext policy c s turn t → ⊥

-- and nothing is kept of it
abbrev pub NodeGoneKeepsNothing : Type 0
NodeGoneKeepsNothing = (c : Conn) (piece : List ℕ) (s : NodeState) → s.intakes c.0 ≡ None → node_fed c piece s ≡ s
