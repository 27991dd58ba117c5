-- How a step looks from one connection: how the input concerns it, what it is to the node before and after, what it is
-- ordered.
use Rattle.std.specs.Prelude.{Bool, true, ◌==◌, if◌then◌else◌, Option, Some, None, List, [], ◌∷◌, IsTrue, ⊤}
use Rattle.dm_machine.specs.declared.connection.Conn.{Conn}
use Rattle.dm_machine.specs.declared.phase.Role.{Role}
use Rattle.dm_machine.specs.declared.phase.Role.TheVariants.{Initiated, Accepted}
use Rattle.dm_machine.specs.declared.state_name.State.{State}
use Rattle.dm_machine.specs.declared.state_name.State.TheVariants.{WaitConnAck, WaitConnAckElect, ROpen, IOpen, Closing}
use Rattle.dm_machine.specs.declared.inputs.Input.{Input}
use Rattle.dm_machine.specs.declared.inputs.Input.TheVariants.{Start, Stop, Timeout, Tick}
use Rattle.dm_machine.specs.declared.inputs.Input.TheVariants.{Ack, Nack, Gone, Submit, Heard}
use Rattle.dm_machine.specs.declared.inputs.Word.{Word}
use Rattle.dm_machine.specs.declared.outputs.Command.{Command}
use Rattle.dm_machine.specs.declared.outputs.Command.TheVariants.{Connect, SendCer, SendCea, SendRefusal, SendDwr}
use Rattle.dm_machine.specs.declared.outputs.Command.TheVariants.{SendDwa, SendDpr, SendDpa, SendSubmit, Close, Up}
use Rattle.dm_machine.specs.Node.{Node, is_shaped}
use Rattle.dm_machine.specs.Moves.{NodeOutcome, NodeMoved, NodeRefused, machine_outcome}

-- what a connection is to a node: not held; initiated and not yet made, made and waiting for its CEA, open, closing;
-- accepted and waiting for its CEA to be sent, open, closing
pub data Hold : Type 0 where
  NotHeld : Hold
  Pending : Hold
  Made : Hold
  OpenAsI : Hold
  ClosingAsI : Hold
  Taken : Hold
  OpenAsR : Hold
  ClosingAsR : Hold

abbrev pub hold_as : State → Role → Hold
hold_as ROpen role = OpenAsR
hold_as IOpen role = OpenAsI
hold_as Closing Initiated = ClosingAsI
hold_as Closing Accepted = ClosingAsR
hold_as WaitConnAck Initiated = Pending
hold_as WaitConnAckElect Initiated = Pending
hold_as _ Initiated = Made
hold_as _ Accepted = Taken

abbrev pub hold_in : State → List (Role × Conn) → Conn → Hold
hold_in s [] c = NotHeld
hold_in s (p ∷ ps) c = if p.1.0 == c.0 then hold_as s p.0 else hold_in s ps c

abbrev pub hold_of : Node → Conn → Hold
hold_of n c = hold_in n.state n.held c

-- how an input concerns a connection: it names another one, it names none, or it names this one
pub data Concern : Type 0 where
  NamesAnother : Concern
  AsksStop : Concern
  SaysTimeout : Concern
  SaysTick : Concern
  AsksSubmit : Concern
  StartsIt : Concern
  AcksIt : Concern
  NacksIt : Concern
  EndsIt : Concern
  HeardOnIt : Word → Concern

abbrev pub if_named : Bool → Concern → Concern
if_named true k = k
if_named _ k = NamesAnother

abbrev pub concern_of : Input → Conn → Concern
concern_of (Start d) c = if_named (d.0 == c.0) StartsIt
concern_of Stop c = AsksStop
concern_of Timeout c = SaysTimeout
concern_of Tick c = SaysTick
concern_of (Ack d) c = if_named (d.0 == c.0) AcksIt
concern_of (Nack d) c = if_named (d.0 == c.0) NacksIt
concern_of (Gone d) c = if_named (d.0 == c.0) EndsIt
concern_of Submit c = AsksSubmit
concern_of (Heard d w) c = if_named (d.0 == c.0) (HeardOnIt w)

-- what a connection is ordered: a command without the connection that it names
pub data ConnOrder : Type 0 where
  Connects : ConnOrder
  SendsCer : ConnOrder
  SendsCea : ConnOrder
  SendsRefusal : ConnOrder
  SendsDwr : ConnOrder
  SendsDwa : ConnOrder
  SendsDpr : ConnOrder
  SendsDpa : ConnOrder
  SendsSubmit : ConnOrder
  Closes : ConnOrder

abbrev pub if_ordered : Bool → ConnOrder → Option ConnOrder
if_ordered true o = Some o
if_ordered _ o = None

abbrev pub order_to : Conn → Command → Option ConnOrder
order_to c (Connect d) = if_ordered (d.0 == c.0) Connects
order_to c (SendCer d) = if_ordered (d.0 == c.0) SendsCer
order_to c (SendCea d) = if_ordered (d.0 == c.0) SendsCea
order_to c (SendRefusal d) = if_ordered (d.0 == c.0) SendsRefusal
order_to c (SendDwr d) = if_ordered (d.0 == c.0) SendsDwr
order_to c (SendDwa d) = if_ordered (d.0 == c.0) SendsDwa
order_to c (SendDpr d) = if_ordered (d.0 == c.0) SendsDpr
order_to c (SendDpa d) = if_ordered (d.0 == c.0) SendsDpa
order_to c (SendSubmit d) = if_ordered (d.0 == c.0) SendsSubmit
order_to c (Close d) = if_ordered (d.0 == c.0) Closes
order_to c Up = None

abbrev pub with_order : Option ConnOrder → List ConnOrder → List ConnOrder
with_order None more = more
with_order (Some o) more = o ∷ more

-- all that a connection is ordered, in order, also behind a Close
abbrev pub orders_to : Conn → List Command → List ConnOrder
orders_to c [] = []
orders_to c (a ∷ more) = with_order (order_to c a) (orders_to c more)

-- a fact of how the input concerns the connection, what that was and is, and what it is ordered
abbrev pub AtConnection : (Concern → Hold → Hold → List ConnOrder → Type 0) → Node → Input → Conn → NodeOutcome → Type 0
AtConnection P n i c (NodeMoved commands next) = P (concern_of i c) (hold_of n c) (hold_of next c)
    (orders_to c commands)
AtConnection P n i c (NodeRefused r) = ⊤

-- the fact holds of each connection at each step of a node of the right shape
abbrev pub AtEachStep : (Concern → Hold → Hold → List ConnOrder → Type 0) → Type 0
AtEachStep P =
    (n : Node) (i : Input) (wins : Bool) (c : Conn) →
    IsTrue (is_shaped n) → AtConnection P n i c (machine_outcome n i wins)
