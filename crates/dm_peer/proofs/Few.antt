-- What holds of each step of the state machine at an event, computed at the few that there are.
use Rattle.std.proofs.Common.{◌≡◌, Bool, true, false, not, ◌&&◌, ◌||◌, IsTrue, refl}
use Rattle.std.specs.List.{list_all}
use Rattle.std.proofs.lemmas.Bool.{and_parts}
use Rattle.dm_machine.specs.declared.connection.Conn.{Conn}
use Rattle.dm_machine.specs.declared.state_name.State.{State}
use Rattle.dm_machine.specs.declared.inputs.Input.{Input}
use Rattle.dm_machine.specs.declared.inputs.Input.TheVariants as input
use Rattle.dm_machine.specs.declared.inputs.Word.{Word}
use Rattle.dm_machine.specs.declared.inputs.Word.TheVariants.{Unreadable, CerRefused, DwrBad, DprBad}
use Rattle.dm_machine.specs.declared.outputs.Command.{Command}
use Rattle.dm_machine.specs.declared.outputs.Command.TheVariants as command
use Rattle.dm_machine.specs.Node.{Node, is_shaped}
use Rattle.dm_machine.specs.Moves.{NodeOutcome, NodeMoved, NodeRefused, machine_outcome}
use Rattle.dm_machine.specs.Strangers.{is_good_cer}
use Rattle.dm_machine.specs.Awaiting.{awaits_cea, holds_cer}
use Rattle.dm_machine.specs.EachStep.{StepTest, everywhere, passes_of, EachStepHolds}
use Rattle.dm_peer.specs.After.{request_in, is_cer}

-- the word of the message that is heard
abbrev pub word_of : Input → Word
word_of (input.Heard c w) = w
word_of _ = Unreadable

abbrev pub is_read : Word → Bool
is_read Unreadable = false
is_read _ = true

-- a word of a message that is refused
abbrev pub is_refused_word : Word → Bool
is_refused_word CerRefused = true
is_refused_word DwrBad = true
is_refused_word DprBad = true
is_refused_word _ = false

abbrev pub is_stop_input : Input → Bool
is_stop_input input.Stop = true
is_stop_input _ = false

abbrev pub is_submit_input : Input → Bool
is_submit_input input.Submit = true
is_submit_input _ = false

-- a Start or a Timeout
abbrev pub is_quiet : Input → Bool
is_quiet (input.Start c) = true
is_quiet input.Timeout = true
is_quiet _ = false

-- a state that awaits a CEA is entered with a CER, one in which a CER waits at a good CER
abbrev pub is_entered : State → Word → NodeOutcome → Bool
is_entered s w (NodeMoved commands next) =
    (not (awaits_cea next.state) || (awaits_cea s || is_cer (request_in commands)))
    && (not (holds_cer next.state) || (holds_cer s || is_good_cer w))
is_entered s w (NodeRefused r) = true

-- what a command asks of the state and the input at which it is ordered
abbrev pub is_asked : State → Input → Command → Bool
is_asked s i (command.SendCea c) = holds_cer s || is_read (word_of i)
is_asked s i (command.SendRefusal c) = is_refused_word (word_of i)
is_asked s i (command.SendDwa c) = is_read (word_of i)
is_asked s i (command.SendDpa c) = is_read (word_of i)
is_asked s i (command.SendDpr c) = is_stop_input i
is_asked s i (command.SendSubmit c) = is_submit_input i
is_asked s i command.Up = is_read (word_of i)
is_asked s i _ = true

abbrev pub are_asked : State → Input → NodeOutcome → Bool
are_asked s i (NodeMoved commands next) = list_all (is_asked s i) commands
are_asked s i (NodeRefused r) = true

-- a command whose action takes no memory
abbrev pub is_light : Command → Bool
is_light (command.Connect c) = true
is_light (command.Close c) = true
is_light _ = false

abbrev pub are_light : NodeOutcome → Bool
are_light (NodeMoved commands next) = list_all is_light commands
are_light (NodeRefused r) = true

abbrev is_right : StepTest
is_right n at i o =
    is_entered n.state (word_of i) o && (are_asked n.state i o && (not (is_quiet i) || are_light o))

checked : (i r c : Conn) → IsTrue (passes_of is_right i r c)
unfolding everywhere
checked i r c = refl

-- the facts of a step
pub record StepFacts (n : Node) (i : Input) (o : NodeOutcome) : Type 0 where
  pub entered : is_entered n.state (word_of i) o ≡ true
  pub asked : are_asked n.state i o ≡ true
  pub light : (not (is_quiet i) || are_light o) ≡ true

pub facts : EachStepHolds → (n : Node) (i : Input) (wins : Bool) → IsTrue (is_shaped n) →
    StepFacts n i (machine_outcome n i wins)
facts few n i wins shaped =
    let o = machine_outcome n i wins in
    let light = not (is_quiet i) || are_light o in
    let all = and_parts (is_entered n.state (word_of i) o) (are_asked n.state i o && light)
    (few is_right checked n i wins shaped) in
    let rest = and_parts (are_asked n.state i o) light all.1 in
    record { entered = all.0; asked = rest.0; light = rest.1 }
