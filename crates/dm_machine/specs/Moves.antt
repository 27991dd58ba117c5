-- What one event does: the row's actions as commands, the connections held and the count after it.
use Rattle.std.specs.Prelude.{◌≡◌, ℕ, Bool, true, false, ◌&&◌, if◌then◌else◌, Option, Some, None, List, [], ◌∷◌, ◌++◌}
use Rattle.dm_machine.specs.declared.connection.Conn.{Conn}
use Rattle.dm_machine.specs.declared.phase.Role.{Role}
use Rattle.dm_machine.specs.declared.phase.Role.TheVariants.{Initiated, Accepted}
use Rattle.dm_machine.specs.declared.state_name.State.{State}
use Rattle.dm_machine.specs.declared.state_name.State.TheVariants.{Closed, ROpen, IOpen}
use Rattle.dm_machine.specs.declared.inputs.Input.{Input}
use Rattle.dm_machine.specs.declared.inputs.Input.TheVariants as input
use Rattle.dm_machine.specs.declared.outputs.Command.{Command}
use Rattle.dm_machine.specs.declared.outputs.Command.TheVariants.{Connect, SendCer, SendCea, SendRefusal, SendDwr}
use Rattle.dm_machine.specs.declared.outputs.Command.TheVariants.{SendDwa, SendDpr, SendDpa, SendSubmit, Close}
use Rattle.dm_machine.specs.declared.outputs.Command.TheVariants as command
use Rattle.dm_machine.specs.declared.outputs.Refusal.{Refusal}
use Rattle.dm_machine.specs.declared.outputs.Refusal.TheVariants.{NotClosed, NotOpen}
use Rattle.dm_machine.specs.Table.{TableEvent, Start, RConnCer, IRcvConnNack, WinElection, SendMessage, Stop}
use Rattle.dm_machine.specs.Table.{RConnRefusedCer, RConnOther, FirstTick, SecondTick, Act, ISndConnReq, RAccept}
use Rattle.dm_machine.specs.Table.{RSndCea, ISndCer, Cleanup, Elect, Error, IDisc, RDisc, RReject, XSndMessage}
use Rattle.dm_machine.specs.Table.{Up, XSndDwa, XSndDpr, XSndDpa, XDisc, RSndRefusal, XSndRefusal, XSndDwr, Row}
use Rattle.dm_machine.specs.Rows.{rows, row_in}
use Rattle.dm_machine.specs.Node.{Node, node_at, held_as, only_held, without, pair_of}
use Rattle.dm_machine.specs.Reading.{conn_named, event_of}

abbrev pub to_one : (Conn → Command) → Option Conn → List Command
to_one make None = []
to_one make (Some c) = make c ∷ []

-- the commands of one action: of the connection that the input names, and of those held
abbrev pub commands_of : Act → Option Conn → List (Role × Conn) → List Command
commands_of ISndConnReq new held = to_one Connect new
commands_of RAccept new held = []
commands_of RSndCea new held = to_one SendCea (held_as Accepted held)
commands_of ISndCer new held = to_one SendCer (held_as Initiated held)
commands_of Cleanup new held = []
commands_of Elect new held = []
commands_of Error new held = to_one Close (held_as Initiated held) ++ to_one Close (held_as Accepted held)
commands_of IDisc new held = to_one Close (held_as Initiated held)
commands_of RDisc new held = to_one Close (held_as Accepted held)
commands_of RReject new held = to_one Close new
commands_of XSndMessage new held = to_one SendSubmit (only_held held)
commands_of Up new held = command.Up ∷ []
commands_of XSndDwa new held = to_one SendDwa (only_held held)
commands_of XSndDpr new held = to_one SendDpr (only_held held)
commands_of XSndDpa new held = to_one SendDpa (only_held held)
commands_of XDisc new held = to_one Close (only_held held)
commands_of RSndRefusal new held = to_one SendRefusal new
commands_of XSndRefusal new held = to_one SendRefusal (only_held held)
commands_of XSndDwr new held = to_one SendDwr (only_held held)

-- the set after one action: Start and R-Accept put a pair in, each Close takes its connection out
abbrev pub held_after : Act → Option Conn → List (Role × Conn) → List (Role × Conn)
held_after ISndConnReq new held = pair_of Initiated new ++ held
held_after RAccept new held = held ++ pair_of Accepted new
held_after Error new held = []
held_after IDisc new held = without Initiated held
held_after RDisc new held = without Accepted held
held_after XDisc new held = []
held_after _ new held = held

abbrev pub all_commands : List Act → Option Conn → List (Role × Conn) → List Command
all_commands [] new held = []
all_commands (a ∷ acts) new held = commands_of a new held ++ all_commands acts new (held_after a new held)

abbrev pub all_held : List Act → Option Conn → List (Role × Conn) → List (Role × Conn)
all_held [] new held = held
all_held (a ∷ acts) new held = all_held acts new (held_after a new held)

-- a Nack takes its connection out
abbrev pub held_at : TableEvent → List (Role × Conn) → List (Role × Conn)
held_at IRcvConnNack held = without Initiated held
held_at _ held = held

-- the watchdog's count where an open state stays: kept by a message sent and by a new connection, one more at a tick,
-- 0 after a message on x
abbrev pub counted : TableEvent → ℕ → ℕ
counted SendMessage n = n
counted RConnCer n = n
counted RConnRefusedCer n = n
counted RConnOther n = n
counted FirstTick n = 1
counted SecondTick n = 2
counted _ n = 0

abbrev pub is_open : State → Bool
is_open ROpen = true
is_open IOpen = true
is_open _ = false

-- the count is 0 outside the open states, and when one is entered
abbrev pub count_after : State → State → TableEvent → ℕ → ℕ
count_after from next e n = if is_open from && is_open next then counted e n else 0

pub data NodeOutcome : Type 0 where
  NodeMoved : List Command → Node → NodeOutcome
  NodeRefused : Refusal → NodeOutcome

abbrev pub by_row : Row → Node → TableEvent → Option Conn → NodeOutcome
by_row r n e new =
    let held = held_at e n.held
    in NodeMoved (all_commands r.acts new held)
    (node_at r.next (all_held r.acts new held) (count_after n.state r.next e n.count))

-- without a row a Start, Stop or Submit is refused, and all else changes nothing
abbrev pub by_no_row : Node → TableEvent → NodeOutcome
by_no_row n Start = NodeRefused NotClosed
by_no_row n Stop = NodeRefused NotOpen
by_no_row n SendMessage = NodeRefused NotOpen
by_no_row n _ = NodeMoved [] n

abbrev pub by_event : Option Row → Node → TableEvent → Option Conn → NodeOutcome
by_event (Some r) n e new = by_row r n e new
by_event None n e new = by_no_row n e

abbrev pub has_elect : List Act → Bool
has_elect [] = false
has_elect (Elect ∷ acts) = true
has_elect (_ ∷ acts) = has_elect acts

-- whether the row raises an election that the own side wins [5.6.4]
abbrev pub raises_win : Option Row → Bool → Bool
raises_win None wins = false
raises_win (Some r) wins = has_elect r.acts && wins

abbrev pub after_commands : List Command → NodeOutcome → NodeOutcome
after_commands before (NodeRefused r) = NodeRefused r
after_commands before (NodeMoved more n) = NodeMoved (before ++ more) n

-- the row of Win-Election follows in the same step
abbrev pub then_won : NodeOutcome → NodeOutcome
then_won (NodeRefused r) = NodeRefused r
then_won (NodeMoved before n) = after_commands before (by_event (row_in rows n.state WinElection) n WinElection None)

-- the outcome of an event of the table
abbrev pub by_table : Node → TableEvent → Option Conn → Bool → NodeOutcome
by_table n e new wins =
    let found = row_in rows n.state e in
    let first = by_event found n e new in
    if raises_win found wins then then_won first else first

-- the one outcome of an input
abbrev pub machine_outcome : Node → Input → Bool → NodeOutcome
machine_outcome n i wins = by_table n (event_of n i) (conn_named i) wins

-- the step that an input makes
abbrev pub Moves : Node → Input → Bool → List Command → Node → Type 0
Moves n i wins commands next = machine_outcome n i wins ≡ NodeMoved commands next

abbrev pub MachineRefuses : Node → Input → Bool → Refusal → Type 0
MachineRefuses n i wins r = machine_outcome n i wins ≡ NodeRefused r

-- the inputs that are refused: Start outside Closed, Stop and Submit outside the open states
abbrev pub node_refusal : State → Input → Option Refusal
node_refusal Closed (input.Start c) = None
node_refusal s (input.Start c) = Some NotClosed
node_refusal s input.Stop = if is_open s then None else Some NotOpen
node_refusal s input.Submit = if is_open s then None else Some NotOpen
node_refusal _ _ = None
