-- What a connection is ordered, and the commands: each order is a command, and each command to it an order.
use Rattle.std.specs.Prelude.{◌≡◌, true, Some, List, ◌∷◌, ◌++◌}
use Rattle.dm_machine.specs.declared.connection.Conn.{Conn}
use Rattle.dm_machine.specs.declared.outputs.Command.{Command}
use Rattle.dm_machine.specs.declared.outputs.Command.TheVariants as command
use Rattle.dm_machine.specs.Connection.{ConnOrder, Connects, SendsCer, SendsCea, SendsRefusal, SendsDwr}
use Rattle.dm_machine.specs.Connection.{SendsDwa, SendsDpr, SendsDpa, SendsSubmit, Closes, order_to, orders_to}
use Rattle.dm_machine.specs.Openings.{is_order, has_order}

-- an element of a list, with what stands before and behind it
abbrev pub StandsAmong : {X : Type 0} → List X → X → Type 0
StandsAmong {X} xs x = (earlier : List X) × (later : List X) × (xs ≡ earlier ++ x ∷ later)

-- the command of an order
abbrev pub command_by_order : ConnOrder → Conn → Command
command_by_order Connects c = command.Connect c
command_by_order SendsCer c = command.SendCer c
command_by_order SendsCea c = command.SendCea c
command_by_order SendsRefusal c = command.SendRefusal c
command_by_order SendsDwr c = command.SendDwr c
command_by_order SendsDwa c = command.SendDwa c
command_by_order SendsDpr c = command.SendDpr c
command_by_order SendsDpa c = command.SendDpa c
command_by_order SendsSubmit c = command.SendSubmit c
command_by_order Closes c = command.Close c

-- orders are told apart by their numbers
abbrev pub OrdersAreToldApart : Type 0
OrdersAreToldApart = (o p : ConnOrder) → is_order o p ≡ true → o ≡ p

-- what a connection is ordered is among the commands
abbrev pub EachOrderIsACommand : Type 0
EachOrderIsACommand =
    (o : ConnOrder) (c : Conn) (commands : List Command) → has_order o (orders_to c commands) ≡ true →
    StandsAmong commands (command_by_order o c)

-- a command to a connection is among what it is ordered
abbrev pub EachCommandIsAnOrder : Type 0
EachCommandIsAnOrder =
    (o : ConnOrder) (c : Conn) (commands : List Command) (a : Command) → StandsAmong commands a
    → order_to c a ≡ Some o →
    has_order o (orders_to c commands) ≡ true
