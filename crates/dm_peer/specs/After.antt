-- Where a peer stands after a step: its numbers, and what it waits for.
use Rattle.std.specs.Prelude.{ℕ, ◌+◌, ◌%◌, ◌^◌, Bool, true, false, ◌&&◌}
use Rattle.std.specs.Prelude.{Option, None, Some, List, [], ◌∷◌, if◌then◌else◌}
use Rattle.dm_base.specs.Commands.{base_command}
use Rattle.dm_base.specs.declared.base_command.BaseCommand.{BaseCommand}
use Rattle.dm_base.specs.declared.base_command.BaseCommand.TheVariants.{CapabilitiesExchange}
use Rattle.dm_base.specs.declared.base_command.BaseCommand.TheVariants.{DeviceWatchdog, DisconnectPeer}
use Rattle.dm_machine.specs.declared.state_name.State.{State}
use Rattle.dm_machine.specs.declared.state_name.State.TheVariants.{Closed}
use Rattle.dm_machine.specs.declared.outputs.Command.{Command}
use Rattle.dm_machine.specs.declared.outputs.Command.TheVariants.{SendCer, SendDwr, SendDpr}
use Rattle.dm_machine.specs.declared.inputs.Word.{Word}
use Rattle.dm_machine.specs.declared.inputs.Word.TheVariants.{Dwa}
use Rattle.dm_machine.specs.Node.{Node, node_at}
use Rattle.dm_machine.specs.Moves.{is_open}
use Rattle.dm_machine.specs.Awaiting.{awaits_cea, awaits_dwa, awaits_dpa, number_after, waiting_after}
use Rattle.dm_peer.specs.declared.standing.Awaited.{Awaited}
use Rattle.dm_peer.specs.declared.standing.Standing.{Standing}
use Rattle.dm_peer.specs.declared.requests.Request.{Request}
use Rattle.dm_peer.specs.declared.requests.Request.TheVariants as request
use Rattle.dm_peer.specs.Said.{Heard, word_heard, header_heard}

abbrev pub nothing_awaited : Awaited
nothing_awaited = record { cea = None; dwa = None; dpa = None }

-- the number that awaits an answer of the command; of another than a base command none does
abbrev pub awaited_by : Awaited → Option BaseCommand → Option ℕ
awaited_by a (Some CapabilitiesExchange) = a.cea
awaited_by a (Some DeviceWatchdog) = a.dwa
awaited_by a (Some DisconnectPeer) = a.dpa
awaited_by a None = None

abbrev pub awaited_of : Awaited → ℕ → Option ℕ
awaited_of a command = awaited_by a (base_command command)

-- Closed with no connections, awaiting nothing
abbrev pub fresh_standing : ℕ → Standing
fresh_standing next = record { core = node_at Closed [] 0; next = next; waiting = None; awaited = nothing_awaited }

-- the request that a command sends
abbrev pub request_of : Command → Option Request
request_of (SendCer c) = Some request.Cer
request_of (SendDwr c) = Some request.Dwr
request_of (SendDpr c) = Some request.Dpr
request_of _ = None

abbrev pub first_of : Option Request → Option Request → Option Request
first_of None later = later
first_of (Some r) later = Some r

-- the first request that commands send
abbrev pub request_in : List Command → Option Request
request_in [] = None
request_in (c ∷ more) = first_of (request_of c) (request_in more)

-- a request takes the next number, and the number rises by one, wrapping
abbrev pub next_after : Option Request → ℕ → ℕ
next_after None n = n
next_after (Some r) n = (n + 1) % 2 ^ 32

abbrev pub is_cer : Option Request → Bool
is_cer (Some request.Cer) = true
is_cer _ = false

abbrev pub is_dwr : Option Request → Bool
is_dwr (Some request.Dwr) = true
is_dwr _ = false

abbrev pub is_dpr : Option Request → Bool
is_dpr (Some request.Dpr) = true
is_dpr _ = false

abbrev pub is_dwa : Word → Bool
is_dwa Dwa = true
is_dwa _ = false

-- the DWR's number goes with a good DWA in an open state
abbrev pub dwa_left : State → Option Heard → Option ℕ → Option ℕ
dwa_left s h old = if is_open s && is_dwa (word_heard h) then None else old

abbrev pub awaited_after : State → Option Heard → Option Request → State → Standing → Awaited
awaited_after s h sent s' p =
    record {
      cea = number_after (awaits_cea s') (is_cer sent) p.next p.awaited.cea;
      dwa = number_after (awaits_dwa s') (is_dwr sent) p.next (dwa_left s h p.awaited.dwa);
      dpa = number_after (awaits_dpa s') (is_dpr sent) p.next p.awaited.dpa;
    }

-- where a peer stands after commands that lead to a node
abbrev pub standing_after : Standing → Option Heard → Option Request → Node → Standing
standing_after p h sent core =
    record {
      core = core;
      next = next_after sent p.next;
      waiting = waiting_after p.core.state (header_heard h) core.state p.waiting;
      awaited = awaited_after p.core.state h sent core.state p;
    }
