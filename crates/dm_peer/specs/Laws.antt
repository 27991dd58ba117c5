-- What two peers hear of each other: the octets that one sends, as the other reads them (RFC 6733, 5.3 to 5.5).
use Rattle.std.specs.Prelude.{◌≡◌, ℕ, ◌<◌, ◌^◌, true, None, Some}
use Rattle.dm_wire.specs.declared.message.Header.{Header}
use Rattle.dm_wire.specs.declared.message.Message.{Message}
use Rattle.dm_wire.specs.Limits.{HeaderFits}
use Rattle.dm_base.specs.declared.kind.Cause.{Cause}
use Rattle.dm_base.specs.Codes.{capabilities_exchange, device_watchdog, disconnect_peer, success}
use Rattle.dm_base.specs.Built.{built_cer, built_cea, built_dwr, built_dpr, built_answer}
use Rattle.dm_base.specs.Common.{are_common}
use Rattle.dm_base.specs.Spelled.{HasSpelling}
use Rattle.dm_machine.specs.declared.inputs.Word.{Word}
use Rattle.dm_machine.specs.declared.inputs.Word.TheVariants.{Cer, Cea, Dwr, Dwa, Dpr, Dpa}
use Rattle.dm_peer.specs.declared.config.Config.{Config}
use Rattle.dm_peer.specs.Hosts.{is_same_host}
use Rattle.dm_peer.specs.Octets.{octets_of}
use Rattle.dm_peer.specs.Said.{good, heard_in, heard_at}

-- what is heard of a message has its header
abbrev pub HeardHasItsHeader : Type 0
HeardHasItsHeader = (c : Config) (m : Message) → (heard_in c m).header ≡ m.header

-- what is sent is heard as it was meant
abbrev pub SentIsHeard : Type 0
SentIsHeard = (c : Config) (m : Message) → HasSpelling m → heard_at c (octets_of m) ≡ Some (heard_in c m)

-- the octets of a message are heard as a good one of this word
abbrev pub IsHeardAs : Config → Message → Word → Type 0
IsHeardAs c m word = heard_at c (octets_of m) ≡ Some (good m.header word)

-- the CER of a node is good to a peer that is configured for the node, and has an application in common with it (5.3)
abbrev pub CerIsGood : Type 0
CerIsGood =
    (c d : Config) (id : ℕ) → id < 256 ^ 4 → is_same_host c.node.host d.peer ≡ true → are_common c.node d.node ≡ true
    → IsHeardAs d (built_cer c.node id) Cer

-- the CEA that accepts a CER is good to every peer that doesn't compare hosts, whomever it is configured for, and to
-- one that does where it is configured for the node (own); it has the Hop-by-Hop Identifier of the CER
abbrev pub CeaIsGood : Type 0
CeaIsGood =
    (c d : Config) (to : Header) → HeaderFits to → to.command ≡ capabilities_exchange
    → (c.compares ≡ true → is_same_host d.node.host c.peer ≡ true)
    → IsHeardAs c (built_cea d.node to success None) Cea

-- and so are a watchdog, a disconnect and their answers (5.4 and 5.5)
abbrev pub DwrIsGood : Type 0
DwrIsGood = (c d : Config) (id : ℕ) → id < 256 ^ 4 → IsHeardAs c (built_dwr d.node id) Dwr

abbrev pub DwaIsGood : Type 0
DwaIsGood =
    (c d : Config) (to : Header) → HeaderFits to → to.command ≡ device_watchdog
    → IsHeardAs c (built_answer d.node to success None) Dwa

abbrev pub DprIsGood : Type 0
DprIsGood = (c d : Config) (id : ℕ) (cause : Cause) → id < 256 ^ 4 → IsHeardAs c (built_dpr d.node id cause) Dpr

abbrev pub DpaIsGood : Type 0
DpaIsGood =
    (c d : Config) (to : Header) → HeaderFits to → to.command ≡ disconnect_peer
    → IsHeardAs c (built_answer d.node to success None) Dpa
