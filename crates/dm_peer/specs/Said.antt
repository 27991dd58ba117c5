-- What a message says to a peer: its word, and why it is refused (RFC 6733, 5.3 and 5.6).
use Rattle.std.specs.Prelude.{ℕ, Bool, true, false, not, ◌&&◌, nat_le, Option, None}
use Rattle.std.specs.Prelude.{Some, option_map, List, Result, Ok, Err, if◌then◌else◌}
use Rattle.dm_wire.specs.declared.codes.results.TheConstants.{UNKNOWN_PEER as unknown_peer}
use Rattle.dm_wire.specs.declared.codes.results.TheConstants.{NO_COMMON_APPLICATION as no_common_application}
use Rattle.dm_wire.specs.declared.codes.results.TheConstants.{NO_COMMON_SECURITY as no_common_security}
use Rattle.dm_wire.specs.declared.message.Header.{Header}
use Rattle.dm_wire.specs.declared.message.Message.{Message}
use Rattle.dm_dict.specs.Faults.{Fault}
use Rattle.dm_dict.specs.Judgement.{shown}
use Rattle.dm_base.specs.declared.base_command.BaseCommand.{BaseCommand}
use Rattle.dm_base.specs.declared.base_command.BaseCommand.TheVariants.{CapabilitiesExchange, DeviceWatchdog}
use Rattle.dm_base.specs.declared.kind.Caps.{Caps}
use Rattle.dm_base.specs.declared.kind.Kind.{Kind}
use Rattle.dm_base.specs.declared.kind.Kind.TheVariants as kinds
use Rattle.dm_base.specs.Codes.{origin_host}
use Rattle.dm_base.specs.Commands.{base_command}
use Rattle.dm_base.specs.Kinds.{data_at, kind}
use Rattle.dm_base.specs.Common.{is_common, is_secure}
use Rattle.dm_machine.specs.declared.inputs.Word.{Word}
use Rattle.dm_machine.specs.declared.inputs.Word.TheVariants.{Unreadable, Cer, CerRefused, Cea, CeaFailed, Dwr}
use Rattle.dm_machine.specs.declared.inputs.Word.TheVariants.{DwrBad, Dwa, DwaBad, Dpr, DprBad, Dpa, DpaBad, Other}
use Rattle.dm_peer.specs.declared.config.Config.{Config}
use Rattle.dm_peer.specs.declared.heard_message.HeardRef.{HeardRef}
use Rattle.dm_peer.specs.Hosts.{is_same_host}
use Rattle.dm_wire.specs.Whole.{message_in}

-- a message that was read: its header, its word, and why it is refused, where it is
pub record Heard : Type 0 where
  pub header : Header
  pub word : Word
  pub failure : Option Fault

-- what the code's parts of a message, which lie in its octets, stand for
abbrev pub heard_of : HeardRef → Heard
heard_of r = record { header = r.header.now; word = r.word; failure = shown r.judged }

abbrev pub good : Header → Word → Heard
good h word = record { header = h; word = word; failure = None }

abbrev pub refused_message : Header → Word → Fault → Heard
refused_message h word failure = record { header = h; word = word; failure = Some failure }

-- the word of a message that fails its check, by its command and the R bit: only those of base commands are checked
abbrev pub bad_word : Option BaseCommand → Bool → Word
bad_word (Some CapabilitiesExchange) true = CerRefused
bad_word (Some CapabilitiesExchange) false = CeaFailed
bad_word (Some DeviceWatchdog) true = DwrBad
bad_word (Some DeviceWatchdog) false = DwaBad
bad_word _ true = DprBad
bad_word _ false = DpaBad

abbrev pub word_of_bad : Header → Word
word_of_bad h = bad_word (base_command h.command) h.request

-- why the capabilities of a peer are refused, in this order: it isn't the configured one, no application is common, it
-- wants a security mechanism (5.3)
abbrev pub refusal_of_caps : Config → Caps → Option ℕ
refusal_of_caps c caps =
    if not (is_same_host caps.host c.peer) then Some unknown_peer
    else (if not (is_common caps c.node) then Some no_common_application
    else (if not (is_secure caps) then Some no_common_security else None))

abbrev pub heard_caps : Header → Option ℕ → Heard
heard_caps h None = good h Cer
heard_caps h (Some code) = refused_message h CerRefused (record { code = code; failed = None })

-- a CEA is good with a Result-Code of success (7.1.2)
abbrev pub word_of_code : ℕ → Word
word_of_code code = if nat_le 2000 code && nat_le code 2999 then Cea else CeaFailed

-- the host of a message's sender, as the message says it: the first Origin-Host; where there is none, no octets (6.3)
abbrev pub sender_host : Message → List ℕ
sender_host m = data_at origin_host m.avps

-- hosts are compared, and the sender isn't the configured peer (own)
abbrev pub is_other_sender : Config → Message → Bool
is_other_sender c m = c.compares && not (is_same_host (sender_host m) c.peer)

-- a CEA of another sender fails, whatever its Result-Code; any other goes by its Result-Code
abbrev pub word_of_cea : Config → Message → ℕ → Word
word_of_cea c m code = if is_other_sender c m then CeaFailed else word_of_code code

abbrev pub said_by_kind : Config → Message → Kind → Heard
said_by_kind c m (kinds.Cer caps) = heard_caps m.header (refusal_of_caps c caps)
said_by_kind c m (kinds.Cea code) = good m.header (word_of_cea c m code)
said_by_kind c m kinds.Dwr = good m.header Dwr
said_by_kind c m kinds.Dwa = good m.header Dwa
said_by_kind c m (kinds.Dpr cause) = good m.header Dpr
said_by_kind c m kinds.Dpa = good m.header Dpa
said_by_kind c m kinds.Other = good m.header Other

abbrev pub said : Config → Message → Result Kind Fault → Heard
said c m (Ok k) = said_by_kind c m k
said c m (Err f) = refused_message m.header (word_of_bad m.header) f

-- the kind of a message under the configuration's dictionary, which is the base one
unfoldable pub kind_under : Config → Message → Result Kind Fault
kind_under c m = kind c.dictionary m

-- what a message says to a peer of this configuration
abbrev pub heard_in : Config → Message → Heard
heard_in c m = said c m (kind_under c m)

-- what octets say, where they spell a message
abbrev pub heard_at : Config → List ℕ → Option Heard
heard_at c s = option_map (heard_in c) (message_in s)

-- the word of what was heard; nothing is heard of octets that are no message, or that aren't looked at
abbrev pub word_heard : Option Heard → Word
word_heard None = Unreadable
word_heard (Some h) = h.word

-- the header of what was heard
abbrev pub header_heard : Option Heard → Option Header
header_heard None = None
header_heard (Some h) = Some h.header
