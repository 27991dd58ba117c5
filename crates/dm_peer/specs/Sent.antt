-- What a command asks of the caller: the messages that a peer sends (RFC 6733, 5.3 to 5.6).
use Rattle.std.specs.Prelude.{ℕ, Bool, true, false, ◌&&◌, nat_le, nat_lt, unwrap_or}
use Rattle.std.specs.Prelude.{Option, None, Some, List, map, if◌then◌else◌}
use Rattle.dm_base.specs.Codes.{success}
use Rattle.dm_base.specs.Commands.{base_command}
use Rattle.dm_base.specs.declared.base_command.BaseCommand.{BaseCommand}
use Rattle.dm_base.specs.declared.base_command.BaseCommand.TheVariants.{CapabilitiesExchange}
use Rattle.dm_wire.specs.declared.codes.results.TheConstants.{UNABLE_TO_COMPLY as unable_to_comply}
use Rattle.dm_wire.specs.declared.message.Header.{Header}
use Rattle.dm_wire.specs.declared.message.Message.{Message}
use Rattle.dm_dict.specs.Faults.{Fault}
use Rattle.dm_base.specs.declared.node.Node.{Node}
use Rattle.dm_base.specs.Built.{built_cer, built_dwr, built_dpr, built_cea, built_answer, built_error}
use Rattle.dm_machine.specs.declared.connection.Conn.{Conn}
use Rattle.dm_machine.specs.declared.outputs.Command.{Command}
use Rattle.dm_machine.specs.declared.outputs.Command.TheVariants as command
use Rattle.dm_machine.specs.Awaiting.{cer_to_answer}
use Rattle.dm_peer.specs.declared.actions.Action.{Action}
use Rattle.dm_peer.specs.declared.actions.Action.TheVariants.{Connect, Send, Close, Up}
use Rattle.dm_peer.specs.declared.peer.Peer.{Peer}
use Rattle.dm_peer.specs.Events.{PeerEvent, octets_in, cause_in}
use Rattle.dm_peer.specs.Octets.{octets_of}
use Rattle.dm_peer.specs.Said.{Heard, header_heard}

-- a Result-Code of a protocol error (7.1.3)
abbrev pub is_protocol_error : ℕ → Bool
is_protocol_error code = nat_le 3000 code && nat_lt code 4000

-- the answer to a request of a base command: a CEA, or a DWA or DPA
abbrev pub answer_by : Option BaseCommand → Node → Header → Fault → Message
answer_by (Some CapabilitiesExchange) n to f = built_cea n to f.code f.failed
answer_by _ n to f = built_answer n to f.code f.failed

-- the answer that refuses a message: with the E bit for a protocol error, else that of its command
abbrev pub refusal : Node → Header → Fault → Message
refusal n to f =
    if is_protocol_error f.code then built_error n to f.code else answer_by (base_command to.command) n to f

-- an answer is ordered only where a message was heard, and a refusal only of one that is refused: these stand for the
-- header and the fault of none, so that the definitions are total
abbrev pub no_header : Header
no_header =
    record {
      request = false;
      proxiable = false;
      error = false;
      retransmit = false;
      command = 0;
      application = 0;
      hop_id = 0;
      end_id = 0;
    }

abbrev pub no_fault : Fault
no_fault = record { code = unable_to_comply; failed = None }

-- the header of what was heard
abbrev pub header_of : Option Heard → Header
header_of h = unwrap_or (header_heard h) no_header

-- why what was heard is refused
abbrev pub fault_in : Option Heard → Fault
fault_in None = no_fault
fault_in (Some h) = unwrap_or h.failure no_fault

-- the header of the CER that a CEA answers
abbrev pub cer_answered : Option Header → Option Heard → Header
cer_answered waiting h = unwrap_or (cer_to_answer waiting (header_heard h)) no_header

abbrev pub sent : Conn → Message → Action
sent c m = Send c (octets_of m)

-- what a command asks for at a peer, after an event and what was heard; an answer that isn't a refusal is one of
-- success (7.1.2)
abbrev pub action_of : Peer → PeerEvent → Option Heard → Command → Action
action_of p e h (command.Connect c) = Connect c
action_of p e h (command.SendCer c) = sent c (built_cer p.config.node p.standing.next)
action_of p e h (command.SendCea c) = sent c (built_cea p.config.node (cer_answered p.standing.waiting h) success None)
action_of p e h (command.SendRefusal c) = sent c (refusal p.config.node (header_of h) (fault_in h))
action_of p e h (command.SendDwr c) = sent c (built_dwr p.config.node p.standing.next)
action_of p e h (command.SendDwa c) = sent c (built_answer p.config.node (header_of h) success None)
action_of p e h (command.SendDpr c) = sent c (built_dpr p.config.node p.standing.next (cause_in e))
action_of p e h (command.SendDpa c) = sent c (built_answer p.config.node (header_of h) success None)
action_of p e h (command.SendSubmit c) = Send c (octets_in e)
action_of p e h (command.Close c) = Close c
action_of p e h command.Up = Up (octets_in e)

-- what commands ask for, in order
abbrev pub actions_of : Peer → PeerEvent → Option Heard → List Command → List Action
actions_of p e h commands = map (action_of p e h) commands

-- an action that takes memory
abbrev pub takes_memory : Action → Bool
takes_memory (Send c s) = true
takes_memory (Up s) = true
takes_memory _ = false
