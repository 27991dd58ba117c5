-- What kind of message a message is, and what it says of capabilities (RFC 6733, 5.3 to 5.5).
use Rattle.std.specs.Prelude.{◌≡◌, ℕ, ◌&&◌, ◌||◌, nat_eq, unwrap_or, Option, None, Some, IsSome, Result}
use Rattle.std.specs.Prelude.{Ok, Err, List, [], length, find, if◌then◌else◌, Bool, true, false}
use Rattle.std.specs.List.{flat_map}
use Rattle.std.specs.Option.{option_eq, option_to_list}
use Rattle.std.specs.Int.{cast_signed, w32}
use Rattle.byteorder.specs.Endian.{big_number}
use Rattle.dm_wire.specs.declared.avp.Avp.{Avp}
use Rattle.dm_wire.specs.declared.message.Message.{Message}
use Rattle.dm_tables.specs.Base.{base_definitions}
use Rattle.dm_tables.specs.Definitions.{Definitions}
use Rattle.dm_wire.specs.Members.{members}
use Rattle.dm_dict.specs.Faults.{Fault, faults, first}
use Rattle.dm_base.specs.Codes.{origin_host, origin_realm}
use Rattle.dm_base.specs.Codes.{auth_application_id, acct_application_id, vendor_specific_application_id}
use Rattle.dm_base.specs.Codes.{inband_security_id, result_code, disconnect_cause}
use Rattle.dm_base.specs.Commands.{base_command, is_base_command}
use Rattle.dm_base.specs.declared.base_command.BaseCommand.{BaseCommand}
use Rattle.dm_base.specs.declared.base_command.BaseCommand.TheVariants.{CapabilitiesExchange}
use Rattle.dm_base.specs.declared.base_command.BaseCommand.TheVariants.{DeviceWatchdog, DisconnectPeer}
use Rattle.dm_base.specs.declared.kind.Caps.{Caps}
use Rattle.dm_base.specs.declared.kind.Kind.{Kind}
use Rattle.dm_base.specs.declared.kind.Kind.TheVariants as kinds

-- the AVP has this code, and no vendor (4.1)
abbrev pub is_plain : ℕ → Avp → Bool
is_plain code a = nat_eq a.code code && option_eq nat_eq a.vendor None

-- the data of an AVP; where there is none, no octets
abbrev pub data_of : Option Avp → List ℕ
data_of None = []
data_of (Some a) = a.bytes

-- the data of the first AVP of a code
abbrev pub data_at : ℕ → List Avp → List ℕ
data_at code l = data_of (find (is_plain code) l)

-- the number of four octets; another number of octets has none
abbrev pub number_in : List ℕ → Option ℕ
number_in s = if nat_eq (length s) 4 then Some (big_number 4 s) else None

-- the number of the first AVP of a code, or 0
abbrev pub number_at : ℕ → List Avp → ℕ
number_at code l = unwrap_or (number_in (data_at code l)) 0

-- the id of an Auth-Application-Id or Acct-Application-Id (6.8 and 6.9)
abbrev pub plain_id : Avp → Option ℕ
plain_id a = if is_plain auth_application_id a || is_plain acct_application_id a then number_in a.bytes else None

abbrev pub plain_ids : Avp → List ℕ
plain_ids a = option_to_list (plain_id a)

-- the id of an Inband-Security-Id (6.10)
abbrev pub security_id : Avp → Option ℕ
security_id a = if is_plain inband_security_id a then number_in a.bytes else None

abbrev pub security_ids : Avp → List ℕ
security_ids a = option_to_list (security_id a)

-- those of the AVPs of a group; octets that aren't AVPs one after the other have none
abbrev pub ids_inside : Option (List Avp) → List ℕ
ids_inside None = []
ids_inside (Some l) = flat_map plain_ids l

-- the ids that an AVP tells, also those inside a Vendor-Specific-Application-Id (6.11); its Vendor-Id isn't used
abbrev pub application_ids : Avp → List ℕ
application_ids a = if is_plain vendor_specific_application_id a then ids_inside (members a.bytes) else plain_ids a

-- the capabilities that AVPs tell (5.3): the first Origin-Host and Origin-Realm, and all ids in order
abbrev pub caps_of : List Avp → Caps
caps_of l =
    record {
      host = data_at origin_host l;
      realm = data_at origin_realm l;
      applications = flat_map application_ids l;
      security = flat_map security_ids l;
    }

-- the kind of a message by its command and the R bit (5.3 to 5.5)
abbrev pub kind_by : Option BaseCommand → Bool → List Avp → Kind
kind_by (Some CapabilitiesExchange) true l = kinds.Cer (caps_of l)
kind_by (Some CapabilitiesExchange) false l = kinds.Cea (number_at result_code l)
kind_by (Some DeviceWatchdog) true l = kinds.Dwr
kind_by (Some DeviceWatchdog) false l = kinds.Dwa
kind_by (Some DisconnectPeer) true l = kinds.Dpr (cast_signed w32 (number_at disconnect_cause l))
kind_by (Some DisconnectPeer) false l = kinds.Dpa
kind_by None request l = kinds.Other

abbrev pub kind_of : ℕ → Bool → List Avp → Kind
kind_of code request l = kind_by (base_command code) request l

-- the fault where there is one, else the kind
abbrev pub kind_or_fault : Option Fault → Kind → Result Kind Fault
kind_or_fault None k = Ok k
kind_or_fault (Some f) k = Err f

-- the kind of a message, or its first fault; messages of other commands are Other, and not checked
abbrev pub kind : Definitions → Message → Result Kind Fault
kind d m =
    if is_base_command m.header.command
    then kind_or_fault (first (faults d m)) (kind_of m.header.command m.header.request m.avps)
    else Ok kinds.Other

-- what is told of a message holds a copy: of the names and ids of a CER, or of the failed AVP of a fault that has one
abbrev pub HoldsCopy : Result Kind Fault → Type 0
HoldsCopy (Ok (kinds.Cer caps)) = Unit {0}
HoldsCopy (Err fault) = IsSome fault.failed
HoldsCopy _ = ⊥

-- under the base dictionary the message is good
pub record IsGood (m : Message) : Type 0 where
  pub faultless : faults base_definitions m ≡ []

-- under the base dictionary the message is good and of this kind
pub record IsBase (m : Message) (k : Kind) : Type 0 where
  pub of_kind : kind base_definitions m ≡ Ok k
