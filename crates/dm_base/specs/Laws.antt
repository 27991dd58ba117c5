-- What the messages that a node builds are: they have a spelling, and under the base dictionary they are good and of
-- their kind.
use Rattle.std.specs.Prelude.{◌≡◌, ℕ, pos, ◌^◌, ◌<◌, [], Option}
use Rattle.dm_wire.specs.declared.avp.Avp.{Avp}
use Rattle.dm_wire.specs.declared.message.Header.{Header}
use Rattle.dm_wire.specs.Limits.{HeaderFits}
use Rattle.dm_tables.specs.Base.{base_definitions}
use Rattle.dm_dict.specs.Faults.{faults}
use Rattle.dm_base.specs.declared.node.Node.{Node}
use Rattle.dm_base.specs.declared.kind.Cause.{Cause}
use Rattle.dm_base.specs.declared.kind.Kind.TheVariants as kinds
use Rattle.dm_base.specs.Codes.{capabilities_exchange, device_watchdog, disconnect_peer}
use Rattle.dm_base.specs.Kinds.{IsBase}
use Rattle.dm_base.specs.Spelled.{HasSpelling}
use Rattle.dm_base.specs.Built.{own_caps, cause_number, built_cer, built_cea}
use Rattle.dm_base.specs.Built.{built_dwr, built_dpr, built_answer, built_error}

abbrev pub CerIsOwn : Type 0
CerIsOwn = (n : Node) (id : ℕ) → IsBase (built_cer n id) (kinds.Cer (own_caps n))

abbrev pub CeaIsOwn : Type 0
CeaIsOwn =
    (n : Node) (to : Header) (code : ℕ) (failed : Option Avp) → to.command ≡ capabilities_exchange → code < 256 ^ 4
    → IsBase (built_cea n to code failed) (kinds.Cea code)

abbrev pub DwrIsOwn : Type 0
DwrIsOwn = (n : Node) (id : ℕ) → IsBase (built_dwr n id) kinds.Dwr

abbrev pub DwaIsOwn : Type 0
DwaIsOwn =
    (n : Node) (to : Header) (code : ℕ) (failed : Option Avp) → to.command ≡ device_watchdog
    → IsBase (built_answer n to code failed) kinds.Dwa

abbrev pub DprIsOwn : Type 0
DprIsOwn = (n : Node) (id : ℕ) (cause : Cause) → IsBase (built_dpr n id cause) (kinds.Dpr (pos (cause_number cause)))

abbrev pub DpaIsOwn : Type 0
DpaIsOwn =
    (n : Node) (to : Header) (code : ℕ) (failed : Option Avp) → to.command ≡ disconnect_peer
    → IsBase (built_answer n to code failed) kinds.Dpa

abbrev pub ErrorIsGood : Type 0
ErrorIsGood = (n : Node) (to : Header) (code : ℕ) → faults base_definitions (built_error n to code) ≡ []

-- octets spell what a node builds; an answer where the numbers of the request's header fit their fields
abbrev pub CerIsSpelled : Type 0
CerIsSpelled = (n : Node) (id : ℕ) → id < 256 ^ 4 → HasSpelling (built_cer n id)

abbrev pub CeaIsSpelled : Type 0
CeaIsSpelled =
    (n : Node) (to : Header) (code : ℕ) (failed : Option Avp) → HeaderFits to → HasSpelling (built_cea n to code failed)

abbrev pub DwrIsSpelled : Type 0
DwrIsSpelled = (n : Node) (id : ℕ) → id < 256 ^ 4 → HasSpelling (built_dwr n id)

abbrev pub DprIsSpelled : Type 0
DprIsSpelled = (n : Node) (id : ℕ) (cause : Cause) → id < 256 ^ 4 → HasSpelling (built_dpr n id cause)

abbrev pub AnswerIsSpelled : Type 0
AnswerIsSpelled =
    (n : Node) (to : Header) (code : ℕ) (failed : Option Avp) → HeaderFits to
    → HasSpelling (built_answer n to code failed)

abbrev pub ErrorIsSpelled : Type 0
ErrorIsSpelled = (n : Node) (to : Header) (code : ℕ) → HeaderFits to → HasSpelling (built_error n to code)
