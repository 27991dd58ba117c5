-- The messages that a node builds (RFC 6733, 5.3 to 5.5 and 7).
use Rattle.std.specs.Prelude.{ℕ, Bool, true, false, nat_le, Option, None, Some, List, [], ◌∷◌, ◌++◌, map, if◌then◌else◌}
use Rattle.dm_wire.specs.Spelling.{be, avp_length}
use Rattle.dm_wire.specs.Canonical.{canonical_avp, canonical_list}
use Rattle.dm_wire.specs.declared.avp.Avp.{Avp}
use Rattle.dm_wire.specs.declared.message.Header.{Header}
use Rattle.dm_wire.specs.declared.message.Message.{Message}
use Rattle.dm_value.specs.declared.address.Ip.{Ip}
use Rattle.dm_value.specs.declared.address.Ip.TheVariants.{V4, V6}
use Rattle.dm_base.specs.Codes.{capabilities_exchange, device_watchdog, disconnect_peer, host_ip_address}
use Rattle.dm_base.specs.Codes.{auth_application_id, acct_application_id, origin_host, origin_realm, vendor_id}
use Rattle.dm_base.specs.Codes.{result_code, product_name, disconnect_cause, failed_avp, longest_failed}
use Rattle.dm_base.specs.Codes.{origin_state_id, firmware_revision, supported_vendor_id, vendor_specific_application_id}
use Rattle.dm_base.specs.Extra.{vendor_applications, supported_vendors, own_firmware, own_state, answer_state, own_ids}
use Rattle.dm_base.specs.declared.vendor_application.VendorApplication.{VendorApplication}
use Rattle.dm_base.specs.declared.kind.Caps.{Caps}
use Rattle.dm_base.specs.declared.kind.Cause.{Cause}
use Rattle.dm_base.specs.declared.kind.Cause.TheVariants.{Rebooting, Busy, DoNotWantToTalkToYou}
use Rattle.dm_base.specs.declared.node.Node.{Node}

-- an AVP with the M bit, without vendor (4.1)
abbrev pub avp : ℕ → List ℕ → Avp
avp code bytes = record { code = code; vendor = None; mandatory = true; protected = false; bytes = bytes }

-- the number as four octets
abbrev pub number_avp : ℕ → ℕ → Avp
number_avp code n = avp code (be n 4)

-- the address family and the address (4.3.1)
abbrev pub address_octets : Ip → List ℕ
address_octets (V4 a) = 0 ∷ 1 ∷ a
address_octets (V6 a) = 0 ∷ 2 ∷ a

-- Host-IP-Address (5.3.5)
abbrev pub address_avp : Ip → Avp
address_avp a = avp host_ip_address (address_octets a)

-- Product-Name has no M bit (5.3.7)
abbrev pub product_avp : List ℕ → Avp
product_avp s = record { code = product_name; vendor = None; mandatory = false; protected = false; bytes = s }

-- Origin-Host and Origin-Realm, and what follows them (6.3 and 6.4)
abbrev pub origin : Node → List Avp → List Avp
origin n rest = avp origin_host n.host ∷ avp origin_realm n.realm ∷ rest

-- an AVP of this number, where there is one
abbrev pub optional_avps : ℕ → Option ℕ → List Avp
optional_avps code None = []
optional_avps code (Some n) = number_avp code n ∷ []

-- Origin-State-Id (8.16)
abbrev pub state_avps : Option ℕ → List Avp
state_avps state = optional_avps origin_state_id state

-- Firmware-Revision has no M bit (5.3.4)
abbrev pub firmware_avps : Option ℕ → List Avp
firmware_avps None = []
firmware_avps (Some n) = record (number_avp firmware_revision n) { mandatory = false } ∷ []

-- the AVP that tells the id of an application of a vendor: Acct-Application-Id or Auth-Application-Id (6.11)
abbrev pub id_code : Bool → ℕ
id_code accounting = if accounting then acct_application_id else auth_application_id

-- Vendor-Specific-Application-Id: Vendor-Id, and one of the two ids (6.11)
unfoldable pub specific_avp : VendorApplication → Avp
specific_avp a =
    avp vendor_specific_application_id
    (canonical_list (number_avp vendor_id a.vendor ∷ number_avp (id_code a.accounting) a.application ∷ []))

-- the ids of its applications, each in an AVP (6.8, 6.9 and 6.11), and Firmware-Revision
abbrev pub application_avps : Node → List Avp
application_avps n =
    map (number_avp auth_application_id) n.auth ++ (map (number_avp acct_application_id) n.acct
    ++ (map specific_avp (vendor_applications n.extras) ++ firmware_avps (own_firmware n.extras)))

-- Supported-Vendor-Ids, and what stands behind them (5.3.6)
abbrev pub behind_failed : Node → List Avp
behind_failed n = map (number_avp supported_vendor_id) (supported_vendors n.extras) ++ application_avps n

-- Vendor-Id, Product-Name, Origin-State-Id, the Failed-AVP where there is one, and the rest (5.3.1 and 5.3.2)
abbrev pub behind_addresses : Node → List Avp → List Avp
behind_addresses n failed =
    number_avp vendor_id n.vendor ∷ product_avp n.product
    ∷ (state_avps (own_state n.extras) ++ (failed ++ behind_failed n))

-- what a node says of itself (5.3.1 and 5.3.2)
abbrev pub capabilities : Node → List Avp → List Avp
capabilities n failed = origin n (map address_avp n.addresses ++ behind_addresses n failed)

-- a Failed-AVP with the canonical octets of the failed AVP, unless its AVP Length is above the own limit (7.5)
abbrev pub failed_avps : Option Avp → List Avp
failed_avps None = []
failed_avps (Some a) = if nat_le (avp_length a) longest_failed then avp failed_avp (canonical_avp a) ∷ [] else []

-- Result-Code (7.1)
abbrev pub result_avp : ℕ → Avp
result_avp code = number_avp result_code code

-- the header of a request: R alone, Application-ID 0, one number as both identifiers (3)
abbrev pub request_header : ℕ → ℕ → Header
request_header command id =
    record {
      request = true;
      proxiable = false;
      error = false;
      retransmit = false;
      command = command;
      application = 0;
      hop_id = id;
      end_id = id;
    }

-- the header of an answer: command, application and identifiers of the request (6.2), and its P bit (own)
abbrev pub answer_header : Bool → Header → Header
answer_header error to =
    record {
      request = false;
      proxiable = to.proxiable;
      error = error;
      retransmit = false;
      command = to.command;
      application = to.application;
      hop_id = to.hop_id;
      end_id = to.end_id;
    }

-- the value of Disconnect-Cause (5.4.3)
abbrev pub cause_number : Cause → ℕ
cause_number Rebooting = 0
cause_number Busy = 1
cause_number DoNotWantToTalkToYou = 2

-- Capabilities-Exchange-Request (5.3.1)
abbrev pub built_cer : Node → ℕ → Message
built_cer n id = record { header = request_header capabilities_exchange id; avps = capabilities n [] }

-- Device-Watchdog-Request (5.5.1)
abbrev pub built_dwr : Node → ℕ → Message
built_dwr n id = record {
  header = request_header device_watchdog id;
  avps = origin n
      (state_avps (own_state n.extras));
}

-- Disconnect-Peer-Request (5.4.1)
abbrev pub built_dpr : Node → ℕ → Cause → Message
built_dpr n id cause =
    record {
      header = request_header disconnect_peer id;
      avps = origin n (number_avp disconnect_cause (cause_number cause) ∷ []);
    }

-- Capabilities-Exchange-Answer (5.3.2)
abbrev pub built_cea : Node → Header → ℕ → Option Avp → Message
built_cea n to code failed =
    record { header = answer_header false to; avps = result_avp code ∷ capabilities n (failed_avps failed) }

-- Device-Watchdog-Answer, with Origin-State-Id, and Disconnect-Peer-Answer (5.5.2 and 5.4.2)
abbrev pub built_answer : Node → Header → ℕ → Option Avp → Message
built_answer n to code failed =
    record {
      header = answer_header false to;
      avps = result_avp code ∷ origin n (failed_avps failed ++ state_avps (answer_state n to.command));
    }

-- an answer with the E bit (7.2)
abbrev pub built_error : Node → Header → ℕ → Message
built_error n to code = record { header = answer_header true to; avps = origin n (result_avp code ∷ []) }

-- what a node says of itself
abbrev pub own_caps : Node → Caps
own_caps n = record { host = n.host; realm = n.realm; applications = own_ids n; security = [] }
