-- What is taken of the state machine, and what a link asks of a node: in which way the node holds it.
pub use Rattle.dm_machine.specs.declared.connection.Conn.{Conn}
pub use Rattle.dm_machine.specs.declared.phase.Role.{Role}
pub use Rattle.dm_machine.specs.declared.phase.Role.TheVariants.{Initiated, Accepted}
pub use Rattle.dm_machine.specs.declared.inputs.Input.{Input}
pub use Rattle.dm_machine.specs.declared.outputs.Command.{Command}
pub use Rattle.dm_machine.specs.Node.{Node, node_at, held_as, is_shaped, is_same_role}
pub use Rattle.dm_machine.specs.Moves.{machine_outcome, is_open}
pub use Rattle.dm_machine.specs.Changes.{EachConnectionChangesAsAllowed}
pub use Rattle.dm_machine.specs.Shape.{EachStepKeepsShape}
use Rattle.std.specs.Prelude.{ℕ, Bool, true, false, ◌==◌, if◌then◌else◌, []}
use Rattle.dm_machine.specs.declared.state_name.State.TheVariants.{Closed}
use Rattle.dm_machine.specs.Connection.{Hold, hold_of}
use Rattle.dm_machine.specs.Connection as hold

-- the connection of a link's number
abbrev pub conn : ℕ → Conn
conn c = record { 0 = c }

-- how an event concerns a link, whatever a message says: not at all, or by starting it, its Ack, its Nack, its end, a
-- message on it
pub data LinkConcern : Type 0 where
  Elsewhere : LinkConcern
  StartsLink : LinkConcern
  MakesLink : LinkConcern
  FailsLink : LinkConcern
  EndsLink : LinkConcern
  HeardOnLink : LinkConcern

abbrev pub concern_if_named : Conn → Conn → LinkConcern → LinkConcern
concern_if_named d c k = if d.0 == c.0 then k else Elsewhere

-- how a node holds a connection: not; initiated and not yet made; initiated and made; open as its initiator; accepted
pub data Tie : Type 0 where
  Unheld : Tie
  Connecting : Tie
  Connected : Tie
  ConnectedOpen : Tie
  AcceptedTie : Tie

abbrev pub tie_as : Hold → Tie
tie_as hold.NotHeld = Unheld
tie_as hold.Pending = Connecting
tie_as hold.Made = Connected
tie_as hold.OpenAsI = ConnectedOpen
tie_as hold.ClosingAsI = Connected
tie_as hold.Taken = AcceptedTie
tie_as hold.OpenAsR = AcceptedTie
tie_as hold.ClosingAsR = AcceptedTie

abbrev pub tie_of : Node → ℕ → Tie
tie_of n c = tie_as (hold_of n (conn c))

abbrev pub is_tie_held : Tie → Bool
is_tie_held Unheld = false
is_tie_held _ = true

-- a node without connections
abbrev pub closed_node : Node
closed_node = node_at Closed [] 0
