-- What goes through an open connection: messages of other commands go up, and those of the user go out, nowhere else.
use Rattle.std.specs.Prelude.{◌≡◌, ⊤, Bool, true, false, ◌&&◌, List, [], ◌∷◌, IsTrue}
use Rattle.dm_machine.specs.declared.connection.Conn.{Conn}
use Rattle.dm_machine.specs.declared.inputs.Input.{Input}
use Rattle.dm_machine.specs.declared.inputs.Input.TheVariants.{Heard}
use Rattle.dm_machine.specs.declared.inputs.Word.TheVariants.{Other}
use Rattle.dm_machine.specs.declared.outputs.Command.{Command}
use Rattle.dm_machine.specs.declared.outputs.Command.TheVariants.{Up}
use Rattle.dm_machine.specs.Node.{Node, node_at, is_shaped}
use Rattle.dm_machine.specs.Moves.{NodeOutcome, NodeMoved, NodeRefused, Moves, machine_outcome}
use Rattle.dm_machine.specs.Connection.{Hold, OpenAsI, OpenAsR, hold_of, Concern, AsksSubmit, SendsSubmit, AtEachStep}
use Rattle.dm_machine.specs.Openings.{has_order}

-- the node is open on the connection
abbrev pub is_open_hold : Hold → Bool
is_open_hold OpenAsI = true
is_open_hold OpenAsR = true
is_open_hold _ = false

abbrev pub is_submitted : Concern → Bool
is_submitted AsksSubmit = true
is_submitted _ = false

-- a message of the user is sent exactly on the connection on which the node is open, at a Submit
abbrev pub SubmitsWhereOpen : Type 0
SubmitsWhereOpen =
    AtEachStep (λ k before after orders. has_order SendsSubmit orders ≡ (is_submitted k && is_open_hold before))

abbrev pub has_up : List Command → Bool
has_up [] = false
has_up (Up ∷ commands) = true
has_up (_ ∷ commands) = has_up commands

-- what is handed up was heard on the connection on which the node is open
pub record IsHeardOpen (n : Node) (i : Input) : Type 0 where
  pub conn : Conn
  pub heard : i ≡ Heard conn Other
  pub opened : is_open_hold (hold_of n conn) ≡ true

abbrev pub UpIsHeard : Node → Input → NodeOutcome → Type 0
UpIsHeard n i (NodeMoved commands next) = has_up commands ≡ true → IsHeardOpen n i
UpIsHeard n i (NodeRefused r) = ⊤

abbrev pub HandsUpWhereOpen : Type 0
HandsUpWhereOpen = (n : Node) (i : Input) (wins : Bool) → IsTrue (is_shaped n)
    → UpIsHeard n i (machine_outcome n i wins)

-- and each such message is handed up, and nothing else is ordered
abbrev pub HandsUpEach : Type 0
HandsUpEach =
    (n : Node) (c : Conn) (wins : Bool) →
    IsTrue (is_shaped n) → is_open_hold (hold_of n c) ≡ true →
    Moves n (Heard c Other) wins (Up ∷ []) (node_at n.state n.held 0)

-- a node is open on one connection at most
abbrev pub OpenOnOne : Type 0
OpenOnOne =
    (n : Node) (c d : Conn) →
    IsTrue (is_shaped n) → is_open_hold (hold_of n c) ≡ true → is_open_hold (hold_of n d) ≡ true → c ≡ d
