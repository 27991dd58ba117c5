-- What came on a node's connection is told alike, however its stream is cut (RFC 6733, 5.6).
use Rattle.std.specs.Prelude.{◌≡◌, List, [], ◌∷◌, ◌++◌, ℕ}
use Rattle.std.specs.List.{concat}
use Rattle.dm_machine.specs.declared.connection.Conn.{Conn}
use Rattle.dm_node.specs.Policies.{Policy}
use Rattle.dm_node.specs.NodeLaws.{AreSoundNeighbours}
use Rattle.dm_node.specs.NodeStates.{NodeState, NodeTurn, NodeTellsNext, NodeIsOut, node_fed}

-- what came on connection c is told turn by turn
abbrev pub NodeTellsAlong : Policy → Conn → NodeState → List NodeTurn → NodeState → Type 0
NodeTellsAlong policy c s [] t = s ≡ t
NodeTellsAlong policy c s (turn ∷ turns) t =
    (m : NodeState) × NodeTellsNext policy c s turn m × NodeTellsAlong policy c m turns t

-- Whatever cuts a stream: where the first octets are told turn by turn, and then those that come behind them, the turns
-- are a telling of the whole at once, and leave the node alike.
abbrev pub NodeCutsAlike : Type 0
NodeCutsAlike =
    (policy : Policy) (c : Conn) (piece more : List ℕ) (s m t : NodeState) (first others : List NodeTurn)
    → NodeTellsAlong policy c (node_fed c piece s) first m → NodeTellsAlong policy c (node_fed c more m) others t
    → NodeTellsAlong policy c (node_fed c (piece ++ more) s) (first ++ others) t

-- What came on a connection is told out in one way: by the same turns, and the node is the same behind them.
abbrev pub NodeOneTelling : Type 0
NodeOneTelling =
    (policy : Policy) (c : Conn) (s t u : NodeState) (turns others : List NodeTurn) → AreSoundNeighbours s.peers
    → NodeTellsAlong policy c s turns t → NodeIsOut c t → NodeTellsAlong policy c s others u → NodeIsOut c u
    → (turns ≡ others) × (t ≡ u)

-- However a stream is cut in two: where the first piece is told, and behind it the second is told out, the turns are,
-- in order, those of the whole told out at once, and the node is the same behind them.
abbrev pub NodeCutsToldOut : Type 0
NodeCutsToldOut =
    (policy : Policy) (c : Conn) (piece more : List ℕ) (s m t u : NodeState) (first others whole : List NodeTurn)
    → AreSoundNeighbours s.peers → NodeTellsAlong policy c (node_fed c piece s) first m
    → NodeTellsAlong policy c (node_fed c more m) others t → NodeIsOut c t
    → NodeTellsAlong policy c (node_fed c (piece ++ more) s) whole u → NodeIsOut c u
    → (first ++ others ≡ whole) × (t ≡ u)

-- each piece comes, and behind it some turns are told
abbrev pub NodeTellsPieces : Policy → Conn → NodeState → List (List ℕ) → List NodeTurn → NodeState → Type 0
NodeTellsPieces policy c s [] turns t = (turns ≡ []) × (s ≡ t)
NodeTellsPieces policy c s (piece ∷ pieces) turns t =
    (first others : List NodeTurn) × (m : NodeState) × (turns ≡ first ++ others)
    × NodeTellsAlong policy c (node_fed c piece s) first m × NodeTellsPieces policy c m pieces others t

-- and however it is cut in many
abbrev pub NodePiecesToldOut : Type 0
NodePiecesToldOut =
    (policy : Policy) (c : Conn) (pieces : List (List ℕ)) (s t u : NodeState) (turns whole : List NodeTurn)
    → AreSoundNeighbours s.peers → NodeTellsPieces policy c s pieces turns t → NodeIsOut c t
    → NodeTellsAlong policy c (node_fed c (concat pieces) s) whole u → NodeIsOut c u → (turns ≡ whole) × (t ≡ u)
