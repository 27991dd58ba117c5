-- Connections under other numbers: what a node, its inputs and its commands are then.
use Rattle.std.specs.Prelude.{◌≡◌, ℕ, Bool, List, [], ◌∷◌}
use Rattle.dm_machine.specs.declared.connection.Conn.{Conn}
use Rattle.dm_machine.specs.declared.phase.Role.{Role}
use Rattle.dm_machine.specs.declared.inputs.Input.{Input}
use Rattle.dm_machine.specs.declared.inputs.Input.TheVariants.{Start, Ack, Nack, Gone, Heard}
use Rattle.dm_machine.specs.declared.outputs.Command.{Command}
use Rattle.dm_machine.specs.declared.outputs.Command.TheVariants.{Connect, SendCer, SendCea, SendRefusal, SendDwr}
use Rattle.dm_machine.specs.declared.outputs.Command.TheVariants.{SendDwa, SendDpr, SendDpa, SendSubmit, Close, Up}
use Rattle.dm_machine.specs.Node.{Node, node_at}
use Rattle.dm_machine.specs.Moves.{NodeOutcome, NodeMoved, NodeRefused, machine_outcome}

-- no two connections get one number
abbrev pub IsOneToOne : (ℕ → ℕ) → Type 0
IsOneToOne f = (m n : ℕ) → f m ≡ f n → m ≡ n

-- a connection under its other number
abbrev pub renumbered : (ℕ → ℕ) → Conn → Conn
renumbered f c = record { 0 = f c.0 }

abbrev pub renumbered_held : (ℕ → ℕ) → List (Role × Conn) → List (Role × Conn)
renumbered_held f [] = []
renumbered_held f (p ∷ ps) = (p.0, renumbered f p.1) ∷ renumbered_held f ps

abbrev pub renumbered_node : (ℕ → ℕ) → Node → Node
renumbered_node f n = node_at n.state (renumbered_held f n.held) n.count

abbrev pub renumbered_input : (ℕ → ℕ) → Input → Input
renumbered_input f (Start c) = Start (renumbered f c)
renumbered_input f (Ack c) = Ack (renumbered f c)
renumbered_input f (Nack c) = Nack (renumbered f c)
renumbered_input f (Gone c) = Gone (renumbered f c)
renumbered_input f (Heard c w) = Heard (renumbered f c) w
renumbered_input f i = i

abbrev pub renumbered_command : (ℕ → ℕ) → Command → Command
renumbered_command f (Connect c) = Connect (renumbered f c)
renumbered_command f (SendCer c) = SendCer (renumbered f c)
renumbered_command f (SendCea c) = SendCea (renumbered f c)
renumbered_command f (SendRefusal c) = SendRefusal (renumbered f c)
renumbered_command f (SendDwr c) = SendDwr (renumbered f c)
renumbered_command f (SendDwa c) = SendDwa (renumbered f c)
renumbered_command f (SendDpr c) = SendDpr (renumbered f c)
renumbered_command f (SendDpa c) = SendDpa (renumbered f c)
renumbered_command f (SendSubmit c) = SendSubmit (renumbered f c)
renumbered_command f (Close c) = Close (renumbered f c)
renumbered_command f Up = Up

abbrev pub renumbered_commands : (ℕ → ℕ) → List Command → List Command
renumbered_commands f [] = []
renumbered_commands f (a ∷ more) = renumbered_command f a ∷ renumbered_commands f more

abbrev pub renumbered_outcome : (ℕ → ℕ) → NodeOutcome → NodeOutcome
renumbered_outcome f (NodeMoved commands n) = NodeMoved (renumbered_commands f commands) (renumbered_node f n)
renumbered_outcome f (NodeRefused r) = NodeRefused r

-- the state machine asks nothing of a number but which connection it is (RFC 6733, 5.6)
abbrev pub StepsGoByNoNumber : Type 0
StepsGoByNoNumber =
    (f : ℕ → ℕ) (n : Node) (i : Input) (wins : Bool) → IsOneToOne f →
    machine_outcome (renumbered_node f n) (renumbered_input f i) wins ≡ renumbered_outcome f (machine_outcome n i wins)
