-- The definitions of the base dictionary, one by one (RFC 6733, 4.5 and 5.3 to 7.5). Where they depart from it, that
-- stands beside them.
use Rattle.std.specs.Prelude.{ℕ, Bool, true, false, List, [], ◌∷◌, ◌++◌, codes, Some, None}
use Rattle.dm_grammar.specs.declared.item.Form.TheVariants.{Fixed, Required, Optional}
use Rattle.dm_value.specs.declared.avp_type.AvpType.{AvpType}
use Rattle.dm_value.specs.declared.avp_type.AvpType.TheVariants.{OctetString, Unsigned32, Address, Time, UTF8String}
use Rattle.dm_value.specs.declared.avp_type.AvpType.TheVariants.{DiameterIdentity, DiameterURI, Enumerated, Grouped}
use Rattle.dm_tables.specs.declared.rule.Entry.{Entry}
use Rattle.dm_tables.specs.declared.def.AvpDef.{AvpDef}
use Rattle.dm_tables.specs.declared.def.CommandDef.{CommandDef}
use Rattle.dm_tables.specs.Codes.{user_name, class, proxy_state, event_timestamp, host_ip_address, auth_application_id}
use Rattle.dm_tables.specs.Codes.{acct_application_id, vendor_specific_application_id, session_id, origin_host}
use Rattle.dm_tables.specs.Codes.{supported_vendor_id, vendor_id, firmware_revision, result_code, product_name}
use Rattle.dm_tables.specs.Codes.{disconnect_cause, origin_state_id, failed_avp, proxy_host, error_message}
use Rattle.dm_tables.specs.Codes.{destination_realm, proxy_info, redirect_host, destination_host, error_reporting_host}
use Rattle.dm_tables.specs.Codes.{origin_realm, experimental_result, experimental_result_code, inband_security_id}
use Rattle.dm_tables.specs.Codes.{capabilities_exchange, device_watchdog, disconnect_peer}
use Rattle.dm_tables.specs.Definitions.{Definitions}

-- 0*1 < NAME >
abbrev pub fixed_optional : List ℕ → Entry
fixed_optional name = record { form = Fixed; name = name; min = 0; max = Some 1 }

-- { NAME }
abbrev pub required_one : List ℕ → Entry
required_one name = record { form = Required; name = name; min = 1; max = Some 1 }

-- 1*{ NAME }
abbrev pub required_some : List ℕ → Entry
required_some name = record { form = Required; name = name; min = 1; max = None }

-- [ NAME ]
abbrev pub optional_one : List ℕ → Entry
optional_one name = record { form = Optional; name = name; min = 0; max = Some 1 }

-- *[ NAME ]
abbrev pub optional_any : List ℕ → Entry
optional_any name = record { form = Optional; name = name; min = 0; max = None }

-- @ NAME CODE TYPE
abbrev pub plain_avp : List ℕ → ℕ → AvpType → AvpDef
plain_avp name code kind = record { name = name; code = code; vendor = None; kind = kind; rule = []; values = [] }

-- < NAME > ::= < AVP Header: CODE > RULE
abbrev pub grouped_avp : List ℕ → ℕ → List Entry → AvpDef
grouped_avp name code rule =
    record { name = name; code = code; vendor = None; kind = Grouped; rule = rule; values = [] }

-- < NAME > ::= < Diameter Header: CODE, FLAG > RULE
abbrev pub command_def : List ℕ → ℕ → Bool → Bool → List Entry → CommandDef
command_def name code request err rule =
    record { name = name; code = code; request = request; proxiable = false; err = err; application = 0; rule = rule }

abbrev pub plain_avps : List AvpDef
plain_avps =
    (plain_avp (codes "User-Name") user_name UTF8String)
    ∷ (plain_avp (codes "Class") class OctetString)
    ∷ (plain_avp (codes "Proxy-State") proxy_state OctetString)
    ∷ (plain_avp (codes "Event-Timestamp") event_timestamp Time)
    ∷ (plain_avp (codes "Host-IP-Address") host_ip_address Address)
    ∷ (plain_avp (codes "Auth-Application-Id") auth_application_id Unsigned32)
    ∷ (plain_avp (codes "Acct-Application-Id") acct_application_id Unsigned32)
    ∷ (plain_avp (codes "Session-Id") session_id UTF8String)
    ∷ (plain_avp (codes "Origin-Host") origin_host DiameterIdentity)
    ∷ (plain_avp (codes "Supported-Vendor-Id") supported_vendor_id Unsigned32)
    ∷ (plain_avp (codes "Vendor-Id") vendor_id Unsigned32)
    ∷ (plain_avp (codes "Firmware-Revision") firmware_revision Unsigned32)
    ∷ (plain_avp (codes "Result-Code") result_code Unsigned32)
    ∷ (plain_avp (codes "Product-Name") product_name UTF8String)
    ∷ (plain_avp (codes "Disconnect-Cause") disconnect_cause Enumerated)
    ∷ (plain_avp (codes "Origin-State-Id") origin_state_id Unsigned32)
    ∷ (plain_avp (codes "Proxy-Host") proxy_host DiameterIdentity)
    ∷ (plain_avp (codes "Error-Message") error_message UTF8String)
    ∷ (plain_avp (codes "Destination-Realm") destination_realm DiameterIdentity)
    ∷ (plain_avp (codes "Redirect-Host") redirect_host DiameterURI)
    ∷ (plain_avp (codes "Destination-Host") destination_host DiameterIdentity)
    ∷ (plain_avp (codes "Error-Reporting-Host") error_reporting_host DiameterIdentity)
    ∷ (plain_avp (codes "Origin-Realm") origin_realm DiameterIdentity)
    ∷ (plain_avp (codes "Experimental-Result-Code") experimental_result_code Unsigned32)
    ∷ (plain_avp (codes "Inband-Security-Id") inband_security_id Unsigned32)
    ∷ []

-- Wider than RFC 6733 (6.11), which has `{ Vendor-Id }`: RFC 3588 had `1*`, and what was made after it is to pass. That
-- just one of the two ids stands there (6.11) no rule can say, and it isn't looked at.
abbrev pub vendor_specific_application_id_def : AvpDef
vendor_specific_application_id_def = grouped_avp (codes "Vendor-Specific-Application-Id") vendor_specific_application_id
    ((required_some (codes "Vendor-Id")) ∷ (optional_one (codes "Auth-Application-Id"))
    ∷ (optional_one (codes "Acct-Application-Id")) ∷
    [])

abbrev pub failed_avp_def : AvpDef
failed_avp_def = grouped_avp (codes "Failed-AVP") failed_avp ((required_some (codes "AVP")) ∷ [])

abbrev pub proxy_info_def : AvpDef
proxy_info_def =
    grouped_avp (codes "Proxy-Info") proxy_info ((required_one (codes "Proxy-Host"))
    ∷ (required_one (codes "Proxy-State")) ∷ (optional_any (codes "AVP")) ∷ [])

abbrev pub experimental_result_def : AvpDef
experimental_result_def =
    grouped_avp (codes "Experimental-Result") experimental_result ((required_one (codes "Vendor-Id"))
    ∷ (required_one (codes "Experimental-Result-Code")) ∷ [])

abbrev pub cer_def : CommandDef
cer_def = command_def (codes "CER") capabilities_exchange true false
    ((required_one (codes "Origin-Host"))
    ∷ (required_one (codes "Origin-Realm"))
    ∷ (required_some (codes "Host-IP-Address"))
    ∷ (required_one (codes "Vendor-Id"))
    ∷ (required_one (codes "Product-Name"))
    ∷ (optional_one (codes "Origin-State-Id"))
    ∷ (optional_any (codes "Supported-Vendor-Id"))
    ∷ (optional_any (codes "Auth-Application-Id"))
    ∷ (optional_any (codes "Inband-Security-Id"))
    ∷ (optional_any (codes "Acct-Application-Id"))
    ∷ (optional_any (codes "Vendor-Specific-Application-Id"))
    ∷ (optional_one (codes "Firmware-Revision"))
    ∷ (optional_any (codes "AVP"))
    ∷ [])

-- `*[ Failed-AVP ]`, here and in DWA, DPA and answer-message, is wider than RFC 6733 (5.3.2, 5.4.2, 5.5.2, 7.2), which
-- has
-- `[ Failed-AVP ]`: RFC 3588 had `*`, and what was made after it is to pass.
abbrev pub cea_def : CommandDef
cea_def = command_def (codes "CEA") capabilities_exchange false false
    ((required_one (codes "Result-Code"))
    ∷ (required_one (codes "Origin-Host"))
    ∷ (required_one (codes "Origin-Realm"))
    ∷ (required_some (codes "Host-IP-Address"))
    ∷ (required_one (codes "Vendor-Id"))
    ∷ (required_one (codes "Product-Name"))
    ∷ (optional_one (codes "Origin-State-Id"))
    ∷ (optional_one (codes "Error-Message"))
    ∷ (optional_any (codes "Failed-AVP"))
    ∷ (optional_any (codes "Supported-Vendor-Id"))
    ∷ (optional_any (codes "Auth-Application-Id"))
    ∷ (optional_any (codes "Inband-Security-Id"))
    ∷ (optional_any (codes "Acct-Application-Id"))
    ∷ (optional_any (codes "Vendor-Specific-Application-Id"))
    ∷ (optional_one (codes "Firmware-Revision"))
    ∷ (optional_any (codes "AVP"))
    ∷ [])

abbrev pub dwr_def : CommandDef
dwr_def = command_def (codes "DWR") device_watchdog true false
    ((required_one (codes "Origin-Host"))
    ∷ (required_one (codes "Origin-Realm"))
    ∷ (optional_one (codes "Origin-State-Id"))
    ∷ (optional_any (codes "AVP"))
    ∷ [])

abbrev pub dwa_def : CommandDef
dwa_def = command_def (codes "DWA") device_watchdog false false
    ((required_one (codes "Result-Code"))
    ∷ (required_one (codes "Origin-Host"))
    ∷ (required_one (codes "Origin-Realm"))
    ∷ (optional_one (codes "Error-Message"))
    ∷ (optional_any (codes "Failed-AVP"))
    ∷ (optional_one (codes "Origin-State-Id"))
    ∷ (optional_any (codes "AVP"))
    ∷ [])

abbrev pub dpr_def : CommandDef
dpr_def = command_def (codes "DPR") disconnect_peer true false
    ((required_one (codes "Origin-Host"))
    ∷ (required_one (codes "Origin-Realm"))
    ∷ (required_one (codes "Disconnect-Cause"))
    ∷ (optional_any (codes "AVP"))
    ∷ [])

abbrev pub dpa_def : CommandDef
dpa_def = command_def (codes "DPA") disconnect_peer false false
    ((required_one (codes "Result-Code"))
    ∷ (required_one (codes "Origin-Host"))
    ∷ (required_one (codes "Origin-Realm"))
    ∷ (optional_one (codes "Error-Message"))
    ∷ (optional_any (codes "Failed-AVP"))
    ∷ (optional_any (codes "AVP"))
    ∷ [])

-- The rule of every answer with the E bit: such an answer doesn't follow the rule of its command but
-- this one (7.2), whose header there has `code` for whatever command was asked. A dictionary holds one code, so it
-- stands at 0, which is no command's.
abbrev pub answer_message_def : CommandDef
answer_message_def = command_def (codes "answer-message") 0 false true
    ((fixed_optional (codes "Session-Id"))
    ∷ (required_one (codes "Origin-Host"))
    ∷ (required_one (codes "Origin-Realm"))
    ∷ (required_one (codes "Result-Code"))
    ∷ (optional_one (codes "Origin-State-Id"))
    ∷ (optional_one (codes "Error-Message"))
    ∷ (optional_one (codes "Error-Reporting-Host"))
    ∷ (optional_any (codes "Failed-AVP"))
    ∷ (optional_one (codes "Experimental-Result"))
    ∷ (optional_any (codes "Proxy-Info"))
    ∷ (optional_any (codes "AVP"))
    ∷ [])

abbrev pub base_avps : List AvpDef
base_avps = plain_avps ++ vendor_specific_application_id_def ∷ failed_avp_def ∷ proxy_info_def ∷ experimental_result_def
    ∷ []

abbrev pub base_commands : List CommandDef
base_commands = cer_def ∷ cea_def ∷ dwr_def ∷ dwa_def ∷ dpr_def ∷ dpa_def ∷ answer_message_def ∷ []

abbrev pub base_definitions : Definitions
base_definitions = record { vendors = []; avps = base_avps; commands = base_commands }
