-- What came on a node's connection, heard as it comes: of a piece what the first message wants (RFC 6733, 5.6).
use Rattle.std.specs.Prelude.{◌≡◌, ◌⊎◌, ℕ, false, Some, List, length, take, drop}
use Rattle.dm_machine.specs.declared.connection.Conn.{Conn}
use Rattle.dm_node.specs.NodeKnown.{IsCopied}
use Rattle.dm_node.specs.NodeStates.{NodeState, NodeTurn, NodeTellsNext, NodeIsOut, TakesMemoryAt, node_fed}
use Rattle.dm_node.specs.Policies.{Policy}
use Rattle.dm_slots.specs.Hearing.{IsWholeAt, IsNotWhole, TakesFrontAt}
use Rattle.dm_slots.specs.Intakes.{Intake}

-- so many octets of the piece came on connection c, and one turn is told behind them
abbrev pub NodeHears : Policy → Conn → List ℕ → ℕ → NodeState → NodeTurn → NodeState → Type 0
NodeHears policy c piece size s turn t = NodeTellsNext policy c (node_fed c (take size piece) s) turn t

-- or the whole piece came, and there is nothing to tell yet
abbrev pub NodeHearsNothing : Conn → List ℕ → ℕ → NodeState → NodeState → Type 0
NodeHearsNothing c piece size s t = (size ≡ length piece) × (t ≡ node_fed c piece s) × NodeIsOut c t

-- Octets of the piece are kept before something is told: the connection is there, what comes isn't thrown away, and the
-- piece doesn't begin with a whole message behind nothing.
pub record IsKeptFirst (c : Conn) (piece : List ℕ) (s : NodeState) : Type 0 where
  pub intake : Intake
  pub there : s.intakes c.0 ≡ Some intake
  pub whole : intake.is_broken ≡ false
  pub not_whole : IsNotWhole intake piece

-- the message with which the piece begins takes memory to be told, or to be copied; or octets are kept first
abbrev pub NodeHearTakesMemory : Policy → Conn → List ℕ → NodeState → Type 0
NodeHearTakesMemory policy c piece s =
    ((size : ℕ) × IsWholeAt (s.intakes c.0) piece size
    × (TakesMemoryAt policy c (take size piece) s.peers ⊎ IsCopied policy c (take size piece) s.peers))
    ⊎ IsKeptFirst c piece s

-- What is heard of a part of a piece is told as if the whole piece had come first, and the rest comes behind it.
abbrev pub NodeHeardAlike : Type 0
NodeHeardAlike =
    (policy : Policy) (c : Conn) (piece : List ℕ) (size : ℕ) (s t : NodeState) (turn : NodeTurn)
    → NodeHears policy c piece size s turn t
    → NodeTellsNext policy c (node_fed c piece s) turn (node_fed c (drop size piece) t)

-- Where nothing was left to tell of connection c, nothing is left behind a turn that is heard of a piece but the rest
-- of that. So who hears each piece until nothing is left of it heard all of it.
abbrev pub NodeHeardOut : Type 0
NodeHeardOut =
    (policy : Policy) (c : Conn) (piece : List ℕ) (size : ℕ) (s t : NodeState) (turn : NodeTurn)
    → NodeIsOut c s → TakesFrontAt (s.intakes c.0) piece size → NodeHears policy c piece size s turn t → NodeIsOut c t
