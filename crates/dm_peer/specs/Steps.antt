-- What an event does to a peer as its state machine sees it: one step, with an action for each command; or an answer
-- that nothing awaits is dropped.
use Rattle.std.specs.Prelude.{◌≡◌, ◌⊎◌, ⊤, ℕ, Bool, true, false, ◌||◌, Option, None, Some, is_some, List, [], map}
use Rattle.std.specs.List.{list_all}
use Rattle.dm_machine.specs.declared.connection.Conn.{Conn}
use Rattle.dm_machine.specs.declared.outputs.Command.{Command}
use Rattle.dm_machine.specs.declared.outputs.Command.TheVariants as command
use Rattle.dm_machine.specs.Connection.{hold_of}
use Rattle.dm_machine.specs.Deeds.{Deed, ConnectsOn, SendsOn, ClosesOn, HandsUp, deed_of_command}
use Rattle.dm_machine.specs.Moves as moves
use Rattle.dm_machine.specs.Moves.{machine_outcome}
use Rattle.dm_peer.specs.declared.actions.Action.{Action}
use Rattle.dm_peer.specs.declared.actions.Action.TheVariants as action
use Rattle.dm_peer.specs.declared.peer.Peer.{Peer}
use Rattle.dm_peer.specs.Events.{PeerEvent, Stop, Arrived, Submit}
use Rattle.dm_peer.specs.Configs.{wins}
use Rattle.dm_peer.specs.Said.{Heard}
use Rattle.dm_peer.specs.Sent.{actions_of}
use Rattle.dm_peer.specs.Acts.{Outcome, Moved, Refused, acts, input_of, is_made}
use Rattle.dm_peer.specs.Settled.{IsSettled}

-- what an action does, whatever it says
abbrev pub deed_of : Action → Deed
deed_of (action.Connect c) = ConnectsOn c
deed_of (action.Send c s) = SendsOn c
deed_of (action.Close c) = ClosesOn c
deed_of (action.Up s) = HandsUp

-- the event brings octets; it is a Stop; it brings octets of the user
abbrev pub is_arrival : PeerEvent → Bool
is_arrival (Arrived c s) = true
is_arrival _ = false

abbrev pub is_stop : PeerEvent → Bool
is_stop (Stop cause) = true
is_stop _ = false

abbrev pub is_submit : PeerEvent → Bool
is_submit (Submit s) = true
is_submit _ = false

-- what was heard is refused
abbrev pub has_heard_fault : Option Heard → Bool
has_heard_fault None = false
has_heard_fault (Some h) = is_some h.failure

-- what a command says is there: the request of an answer, the fault of a refusal, the cause of a disconnect, the octets
abbrev pub has_what_it_says : Peer → PeerEvent → Option Heard → Command → Bool
has_what_it_says p e h (command.SendCea c) = is_some p.standing.waiting || is_some h
has_what_it_says p e h (command.SendRefusal c) = has_heard_fault h
has_what_it_says p e h (command.SendDwa c) = is_some h
has_what_it_says p e h (command.SendDpa c) = is_some h
has_what_it_says p e h (command.SendDpr c) = is_stop e
has_what_it_says p e h (command.SendSubmit c) = is_submit e
has_what_it_says p e h command.Up = is_arrival e
has_what_it_says p e h _ = true

-- one step of the state machine, at the event with some word, with the action of each command, in order; what a settled
-- peer's commands say is there
pub record IsStep (p : Peer) (e : PeerEvent) (actions : List Action) (next : Peer) : Type 0 where
  pub heard : Option Heard
  pub commands : List Command
  pub moves : machine_outcome p.standing.core (input_of e heard) (wins p.config)
      ≡ moves.NodeMoved commands next.standing.core
  pub done : actions ≡ actions_of p e heard commands
  pub deeds : map deed_of actions ≡ map deed_of_command commands
  pub told : IsSettled p → list_all (has_what_it_says p e heard) commands ≡ true
  pub config : next.config ≡ p.config

-- a message on a connection that is held and made is dropped, and nothing changes
pub record IsDrop (p : Peer) (e : PeerEvent) (actions : List Action) (next : Peer) : Type 0 where
  pub conn : Conn
  pub octets : List ℕ
  pub arrived : e ≡ Arrived conn octets
  pub made : is_made (hold_of p.standing.core conn) ≡ true
  pub silent : actions ≡ []
  pub same : next ≡ p

abbrev pub Follows : Peer → PeerEvent → Outcome → Type 0
Follows p e (Moved actions next) = IsStep p e actions next ⊎ IsDrop p e actions next
Follows p e (Refused f) = ⊤

abbrev pub EachEventIsOneStep : Type 0
EachEventIsOneStep = (p : Peer) (e : PeerEvent) → Follows p e (acts p e)
