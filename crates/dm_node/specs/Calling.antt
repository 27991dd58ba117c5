-- The first message of a connection: who calls, and what a stranger is answered (RFC 6733, 5.3).
use Rattle.std.specs.Prelude.{ℕ, Bool, ◌&&◌, nat_eq, Option, None, Some, option_map, List, [], ◌∷◌, find, if◌then◌else◌}
use Rattle.dm_base.specs.Built.{built_error}
use Rattle.dm_base.specs.Codes.{capabilities_exchange, origin_host as origin_host_code}
use Rattle.dm_base.specs.Kinds.{is_plain}
use Rattle.dm_base.specs.declared.node.Node.{Node}
use Rattle.dm_machine.specs.declared.connection.Conn.{Conn}
use Rattle.dm_peer.specs.declared.actions.Action.{Action}
use Rattle.dm_peer.specs.declared.actions.Action.TheVariants.{Send, Close}
use Rattle.dm_peer.specs.Octets.{octets_of}
use Rattle.dm_wire.specs.declared.avp.Avp.{Avp}
use Rattle.dm_wire.specs.declared.codes.results.TheConstants.{UNKNOWN_PEER as unknown_peer}
use Rattle.dm_wire.specs.declared.message.Header.{Header}
use Rattle.dm_wire.specs.declared.message.Message.{Message}
use Rattle.dm_wire.specs.Whole.{message_in}

-- the data of the first Origin-Host (6.3)
abbrev pub calling_host : List Avp → Option (List ℕ)
calling_host l = option_map (λ a. a.bytes) (find (is_plain origin_host_code) l)

-- a Capabilities-Exchange-Request, by its header alone
abbrev pub is_cer_header : Header → Bool
is_cer_header h = nat_eq h.command capabilities_exchange && h.request

-- who calls: the header of a CER, and the host that it says it is from. It isn't judged.
abbrev pub Caller : Type 0
Caller = Header × List ℕ

abbrev pub caller_in : Option Message → Option Caller
caller_in None = None
caller_in (Some m) =
    if is_cer_header m.header then option_map (λ host. (m.header, host)) (calling_host m.avps) else None

abbrev pub caller_of : List ℕ → Option Caller
caller_of s = caller_in (message_in s)

-- what a stranger is answered: a CER 3010 with the E bit (7.1.3), all else nothing; and it is closed
abbrev pub answer_to : Node → Conn → Option Caller → List Action
answer_to n c None = Close c ∷ []
answer_to n c (Some call) = Send c (octets_of (built_error n call.0 unknown_peer)) ∷ Close c ∷ []
