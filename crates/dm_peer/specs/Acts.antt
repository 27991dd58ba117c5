-- What a peer does at an event: one step of the state machine, with what is sent, closed and handed up (RFC 6733, 5.6).
use Rattle.std.specs.Prelude.{◌≡◌, ◌⊎◌, IsTrue, Bool, true, false, not, ◌&&◌}
use Rattle.std.specs.Prelude.{nat_eq, Option, None, Some, List, [], if◌then◌else◌}
use Rattle.std.specs.List.{list_any}
use Rattle.std.specs.Option.{option_eq}
use Rattle.dm_wire.specs.declared.message.Header.{Header}
use Rattle.dm_wire.specs.declared.message.Message.{Message}
use Rattle.dm_base.specs.Commands.{is_base_command}
use Rattle.dm_machine.specs.declared.connection.Conn.{Conn}
use Rattle.dm_machine.specs.declared.state_name.State.{State}
use Rattle.dm_machine.specs.declared.inputs.Input.{Input}
use Rattle.dm_machine.specs.declared.inputs.Input.TheVariants as input
use Rattle.dm_machine.specs.Node.{Node}
use Rattle.dm_machine.specs.Connection.{Hold, hold_of}
use Rattle.dm_machine.specs.Unread.{reads_first}
use Rattle.dm_machine.specs.Moves.{is_open, machine_outcome}
use Rattle.dm_machine.specs.Moves as moves
use Rattle.dm_peer.specs.declared.actions.Action.{Action}
use Rattle.dm_peer.specs.declared.arrivals.Footing.{Footing}
use Rattle.dm_peer.specs.declared.arrivals.Footing.TheVariants.{New, Unmade, Made}
use Rattle.dm_peer.specs.declared.fault.PeerFault.{PeerFault}
use Rattle.dm_peer.specs.declared.fault.PeerFault.TheVariants.{NotOpen, BadSubmit, NoMemory}
use Rattle.dm_peer.specs.declared.standing.Awaited.{Awaited}
use Rattle.dm_peer.specs.declared.standing.Standing.{Standing}
use Rattle.dm_peer.specs.declared.peer.Peer.{Peer}
use Rattle.dm_peer.specs.Faults.{fault_of}
use Rattle.dm_peer.specs.Events.{PeerEvent, Start, Stop, Timeout, Tick, Ack, Nack, Arrived, Gone, Submit}
use Rattle.dm_peer.specs.Configs.{wins}
use Rattle.dm_peer.specs.Places.{footing_of, has_made}
use Rattle.dm_wire.specs.Whole.{message_in}
use Rattle.dm_peer.specs.Said.{Heard, heard_in, word_heard}
use Rattle.dm_peer.specs.Sent.{actions_of, takes_memory}
use Rattle.dm_peer.specs.After.{awaited_of, request_in, standing_after}

pub data Outcome : Type 0 where
  Moved : List Action → Peer → Outcome
  Refused : PeerFault → Outcome

-- the event as the state machine's input, with the word of what was heard
abbrev pub input_of : PeerEvent → Option Heard → Input
input_of (Start c) h = input.Start c
input_of (Stop cause) h = input.Stop
input_of Timeout h = input.Timeout
input_of Tick h = input.Tick
input_of (Ack c) h = input.Ack c
input_of (Nack c) h = input.Nack c
input_of (Arrived c s) h = input.Heard c (word_heard h)
input_of (Gone c) h = input.Gone c
input_of (Submit s) h = input.Submit

abbrev pub standing_at : Peer → Standing → Peer
standing_at p standing = record { config = p.config; standing = standing }

-- what the state machine's outcome comes to
abbrev pub outcome_of : Peer → PeerEvent → Option Heard → moves.NodeOutcome → Outcome
outcome_of p e h (moves.NodeMoved commands core) =
    Moved (actions_of p e h commands) (standing_at p (standing_after p.standing h (request_in commands) core))
outcome_of p e h (moves.NodeRefused r) = Refused (fault_of r)

-- one step of the state machine
unfoldable pub turned : Node → Input → Bool → moves.NodeOutcome
turned n i wins = machine_outcome n i wins

abbrev pub steps : Peer → PeerEvent → Option Heard → Outcome
steps p e h = outcome_of p e h (turned p.standing.core (input_of e h) (wins p.config))

-- a connection that is held and made
abbrev pub is_made : Hold → Bool
is_made hold = has_made (footing_of hold)

-- (own) octets that aren't looked at: on a connection before its Ack, and on a new one where the state reads no first
-- message
abbrev pub is_unread_on : State → Footing → Bool
is_unread_on s New = not (reads_first s)
is_unread_on s Unmade = true
is_unread_on s Made = false

abbrev pub is_unread : State → Hold → Bool
is_unread s hold = is_unread_on s (footing_of hold)

-- (own) an answer that nothing awaits: of command 257, 280 or 282, with another number than its request (6.2.1)
abbrev pub is_unawaited : Awaited → Header → Bool
is_unawaited a h =
    not h.request && (is_base_command h.command && not (option_eq nat_eq (awaited_of a h.command) (Some h.hop_id)))

-- it is dropped on a connection that is made
abbrev pub is_dropped : Peer → Conn → Header → Bool
is_dropped p c h = is_made (hold_of p.standing.core c) && is_unawaited p.standing.awaited h

-- octets that are looked at, as the message that they spell
abbrev pub heard_outcome : Peer → PeerEvent → Conn → Option Message → Outcome
heard_outcome p e c None = steps p e None
heard_outcome p e c (Some m) = if is_dropped p c m.header then Moved [] p else steps p e (Some (heard_in p.config m))

-- (own) a message of a base command, or octets that are none, can't be submitted
abbrev pub can_submit : Option Message → Bool
can_submit None = false
can_submit (Some m) = not (is_base_command m.header.command)

abbrev pub submitted : Peer → PeerEvent → Option Message → Outcome
submitted p e said = if can_submit said then steps p e None else Refused BadSubmit

-- the one outcome of an event
abbrev pub acts : Peer → PeerEvent → Outcome
acts p (Arrived c s) =
    if is_unread p.standing.core.state (hold_of p.standing.core c)
    then steps p (Arrived c s) None
    else heard_outcome p (Arrived c s) c (message_in s)
acts p (Submit s) = if is_open p.standing.core.state then submitted p (Submit s) (message_in s) else Refused NotOpen
acts p (Start c) = steps p (Start c) None
acts p (Stop cause) = steps p (Stop cause) None
acts p Timeout = steps p Timeout None
acts p Tick = steps p Tick None
acts p (Ack c) = steps p (Ack c) None
acts p (Nack c) = steps p (Nack c) None
acts p (Gone c) = steps p (Gone c) None

-- what the outcome asks for takes memory: something is sent or handed up
abbrev pub wants_memory : Outcome → Bool
wants_memory (Moved actions p) = list_any takes_memory actions
wants_memory (Refused f) = false

-- the outcome is refused with this fault; want of memory, only where it takes some
abbrev pub IsRefused : Outcome → PeerFault → Type 0
IsRefused o f = ((f ≡ NoMemory) × IsTrue (wants_memory o)) ⊎ (o ≡ Refused f)
