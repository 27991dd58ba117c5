-- The eight forms of a node: each state with what it holds.
use Rattle.std.specs.Prelude.{ℕ, not, ◌==◌, nat_le, IsTrue, [], ◌∷◌}
use Rattle.dm_machine.specs.declared.connection.Conn.{Conn}
use Rattle.dm_machine.specs.declared.phase.Role.{Role}
use Rattle.dm_machine.specs.declared.phase.Role.TheVariants.{Initiated, Accepted}
use Rattle.dm_machine.specs.declared.state_name.State.TheVariants.{Closed, WaitConnAck, WaitICea, WaitConnAckElect}
use Rattle.dm_machine.specs.declared.state_name.State.TheVariants.{WaitReturns, ROpen, IOpen, Closing}
use Rattle.dm_machine.specs.Node.{Node, node_at, is_shaped}

pub data Form : Node → Type 0 where
  closed : Form (node_at Closed [] 0)
  wait_conn_ack : (i : Conn) → Form (node_at WaitConnAck ((Initiated, i) ∷ []) 0)
  wait_i_cea : (i : Conn) → Form (node_at WaitICea ((Initiated, i) ∷ []) 0)
  wait_conn_ack_elect : (i r : Conn) → IsTrue (not (i.0 == r.0)) →
      Form (node_at WaitConnAckElect ((Initiated, i) ∷ (Accepted, r) ∷ []) 0)
  wait_returns : (i r : Conn) → IsTrue (not (i.0 == r.0)) →
      Form (node_at WaitReturns ((Initiated, i) ∷ (Accepted, r) ∷ []) 0)
  r_open : (r : Conn) (n : ℕ) → IsTrue (nat_le n 2) → Form (node_at ROpen ((Accepted, r) ∷ []) n)
  i_open : (i : Conn) (n : ℕ) → IsTrue (nat_le n 2) → Form (node_at IOpen ((Initiated, i) ∷ []) n)
  closing : (role : Role) (x : Conn) → Form (node_at Closing ((role, x) ∷ []) 0)

-- a node of the right shape is one of the eight
abbrev pub EachShapeIsAForm : Type 0
EachShapeIsAForm = (n : Node) → IsTrue (is_shaped n) → Form n

-- each of the eight is of the right shape
abbrev pub EachFormIsShaped : Type 0
EachFormIsShaped = (n : Node) → Form n → IsTrue (is_shaped n)
