-- A test of a step that looks at no connection: it holds of every step where it does at each state's nodes, places and
-- inputs, of which there are few.
use Rattle.std.specs.Prelude.{Bool, true, false, ◌&&◌, IsTrue, List, [], ◌∷◌}
use Rattle.std.specs.List.{list_all}
use Rattle.dm_machine.specs.declared.connection.Conn.{Conn}
use Rattle.dm_machine.specs.declared.phase.Role.TheVariants.{Initiated, Accepted}
use Rattle.dm_machine.specs.declared.state_name.State.{State}
use Rattle.dm_machine.specs.declared.state_name.State.TheVariants.{Closed, WaitConnAck, WaitICea, WaitConnAckElect}
use Rattle.dm_machine.specs.declared.state_name.State.TheVariants.{WaitReturns, ROpen, IOpen, Closing}
use Rattle.dm_machine.specs.declared.inputs.Input.{Input}
use Rattle.dm_machine.specs.declared.inputs.Input.TheVariants.{Start, Stop, Timeout, Tick}
use Rattle.dm_machine.specs.declared.inputs.Input.TheVariants.{Ack, Nack, Gone, Submit, Heard}
use Rattle.dm_machine.specs.declared.inputs.Word.{Word}
use Rattle.dm_machine.specs.declared.inputs.Word.TheVariants.{Unreadable, Cer, CerRefused, Cea, CeaFailed, Dwr}
use Rattle.dm_machine.specs.declared.inputs.Word.TheVariants.{DwrBad, Dwa, DwaBad, Dpr, DprBad, Dpa, DpaBad, Other}
use Rattle.dm_machine.specs.Node.{Node, node_at, is_shaped}
use Rattle.dm_machine.specs.Reading.{Place, OnI, OnR, OnX, OnNew, conn_named, place_in, event_at}
use Rattle.dm_machine.specs.Moves.{NodeOutcome, by_table, machine_outcome}

-- a test of a node, an input and the place of its connection, and what comes of it
abbrev pub StepTest : Type 0
StepTest = Node → Place → Input → NodeOutcome → Bool

-- the nodes of the right shape that hold i and r
abbrev pub nodes_of : Conn → Conn → List Node
nodes_of i r =
    node_at Closed [] 0
    ∷ node_at WaitConnAck ((Initiated, i) ∷ []) 0
    ∷ node_at WaitICea ((Initiated, i) ∷ []) 0
    ∷ node_at WaitConnAckElect ((Initiated, i) ∷ (Accepted, r) ∷ []) 0
    ∷ node_at WaitReturns ((Initiated, i) ∷ (Accepted, r) ∷ []) 0
    ∷ node_at ROpen ((Accepted, r) ∷ []) 0
    ∷ node_at ROpen ((Accepted, r) ∷ []) 1
    ∷ node_at ROpen ((Accepted, r) ∷ []) 2
    ∷ node_at IOpen ((Initiated, i) ∷ []) 0
    ∷ node_at IOpen ((Initiated, i) ∷ []) 1
    ∷ node_at IOpen ((Initiated, i) ∷ []) 2
    ∷ node_at Closing ((Initiated, i) ∷ []) 0
    ∷ node_at Closing ((Accepted, r) ∷ []) 0
    ∷ []

-- where a connection can stand to a node of a state
abbrev pub places_of : State → List Place
places_of Closed = OnNew ∷ []
places_of WaitConnAck = OnI ∷ OnNew ∷ []
places_of WaitICea = OnI ∷ OnNew ∷ []
places_of WaitConnAckElect = OnI ∷ OnR ∷ OnNew ∷ []
places_of WaitReturns = OnI ∷ OnR ∷ OnNew ∷ []
places_of _ = OnX ∷ OnNew ∷ []

abbrev pub all_words : List Word
all_words =
    Unreadable ∷ Cer ∷ CerRefused ∷ Cea ∷ CeaFailed ∷ Dwr ∷ DwrBad ∷ Dwa ∷ DwaBad ∷ Dpr ∷ DprBad ∷ Dpa ∷ DpaBad ∷ Other
    ∷ []

-- the inputs but for messages, of this connection where they name one
abbrev pub inputs_of : Conn → List Input
inputs_of c = Start c ∷ Stop ∷ Timeout ∷ Tick ∷ Ack c ∷ Nack c ∷ Gone c ∷ Submit ∷ []

unfoldable pub everywhere : {X : Type 0} → (X → Bool) → List X → Bool
everywhere f l = list_all f l

-- the test holds of an input on a connection at a place, whoever wins
abbrev pub passes_at : StepTest → Node → Place → Input → Bool
passes_at test n at i =
    everywhere (λ wins. test n at i (by_table n (event_at n.state n.count at i) (conn_named i) wins)) (true ∷ false
    ∷ [])

abbrev pub passes_on : StepTest → Node → Conn → Place → Bool
passes_on test n c at =
    everywhere (passes_at test n at) (inputs_of c) && everywhere (λ w. passes_at test n at (Heard c w)) all_words

abbrev pub passes_of : StepTest → Conn → Conn → Conn → Bool
passes_of test i r c = everywhere (λ n. everywhere (passes_on test n c) (places_of n.state)) (nodes_of i r)

-- a test that holds of the few, whatever their connections, holds of every step
abbrev pub EachStepHolds : Type 0
EachStepHolds =
    (test : StepTest) → ((i r c : Conn) → IsTrue (passes_of test i r c)) →
    (n : Node) (i : Input) (wins : Bool) → IsTrue (is_shaped n) →
    IsTrue (test n (place_in n (conn_named i)) i (machine_outcome n i wins))
