-- What the messages that a node builds tell of it is what it says of itself (RFC 6733, 5.3 and 5.5).
use Rattle.std.specs.Prelude.{◌≡◌, ℕ, Option, Some, List}
use Rattle.std.specs.List.{flat_map}
use Rattle.dm_wire.specs.declared.avp.Avp.{Avp}
use Rattle.dm_wire.specs.declared.message.Header.{Header}
use Rattle.dm_base.specs.Codes.{origin_host, origin_realm, vendor_id, product_name}
use Rattle.dm_base.specs.Codes.{origin_state_id, firmware_revision, supported_vendor_id, device_watchdog}
use Rattle.dm_base.specs.Kinds.{data_at, application_ids}
use Rattle.dm_base.specs.Senders.{number_told, numbers_told}
use Rattle.dm_base.specs.Extra.{own_ids, own_state, own_firmware, supported_vendors}
use Rattle.dm_base.specs.Built.{built_cer, built_cea, built_dwr, built_answer}
use Rattle.dm_base.specs.declared.node.Node.{Node}

-- AVPs tell what this node says
pub record TellsNode (n : Node) (l : List Avp) : Type 0 where
  pub host : data_at origin_host l ≡ n.host
  pub realm : data_at origin_realm l ≡ n.realm
  pub product : data_at product_name l ≡ n.product
  pub vendor : number_told vendor_id l ≡ Some n.vendor
  pub state : number_told origin_state_id l ≡ own_state n.extras
  pub firmware : number_told firmware_revision l ≡ own_firmware n.extras
  pub applications : flat_map application_ids l ≡ own_ids n
  pub vendors : numbers_told supported_vendor_id l ≡ supported_vendors n.extras

abbrev pub CerTellsNode : Type 0
CerTellsNode = (n : Node) (id : ℕ) → TellsNode n (built_cer n id).avps

abbrev pub CeaTellsNode : Type 0
CeaTellsNode = (n : Node) (to : Header) (code : ℕ) (failed : Option Avp) → TellsNode n (built_cea n to code failed).avps

-- watchdogs tell the number of the node's state (8.16)
abbrev pub DwrTellsState : Type 0
DwrTellsState = (n : Node) (id : ℕ) → number_told origin_state_id (built_dwr n id).avps ≡ own_state n.extras

abbrev pub DwaTellsState : Type 0
DwaTellsState =
    (n : Node) (to : Header) (code : ℕ) (failed : Option Avp) → to.command ≡ device_watchdog
    → number_told origin_state_id (built_answer n to code failed).avps ≡ own_state n.extras
