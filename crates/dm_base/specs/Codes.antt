-- The numbers of the base messages (RFC 6733, 3.1, 4.5 and 7.1), as the code names them, and own limits, which are
-- numbers of their own, so that a constant of the code has to be right.
use Rattle.std.specs.Prelude.{ℕ}
use Rattle.dm_wire.specs.declared.codes.commands.TheConstants.{CAPABILITIES_EXCHANGE, DEVICE_WATCHDOG, DISCONNECT_PEER}
use Rattle.dm_wire.specs.declared.codes.avps.TheConstants.{DISCONNECT_CAUSE, RESULT_CODE}
use Rattle.dm_wire.specs.declared.codes.results.TheConstants.{SUCCESS}
-- AVP Codes
pub use Rattle.dm_wire.specs.declared.codes.avps.TheConstants.{ACCT_APPLICATION_ID as acct_application_id}
pub use Rattle.dm_wire.specs.declared.codes.avps.TheConstants.{AUTH_APPLICATION_ID as auth_application_id}
pub use Rattle.dm_wire.specs.declared.codes.avps.TheConstants.{FAILED_AVP as failed_avp, VENDOR_ID as vendor_id}
pub use Rattle.dm_wire.specs.declared.codes.avps.TheConstants.{FIRMWARE_REVISION as firmware_revision}
pub use Rattle.dm_wire.specs.declared.codes.avps.TheConstants.{HOST_IP_ADDRESS as host_ip_address}
pub use Rattle.dm_wire.specs.declared.codes.avps.TheConstants.{INBAND_SECURITY_ID as inband_security_id}
pub use Rattle.dm_wire.specs.declared.codes.avps.TheConstants.{ORIGIN_HOST as origin_host, ORIGIN_REALM as origin_realm}
pub use Rattle.dm_wire.specs.declared.codes.avps.TheConstants.{ORIGIN_STATE_ID as origin_state_id}
pub use Rattle.dm_wire.specs.declared.codes.avps.TheConstants.{PRODUCT_NAME as product_name}
pub use Rattle.dm_wire.specs.declared.codes.avps.TheConstants.{SUPPORTED_VENDOR_ID as supported_vendor_id}
pub use Rattle.dm_wire.specs.declared.codes.avps.TheConstants.{
  VENDOR_SPECIFIC_APPLICATION_ID as vendor_specific_application_id,
}
-- the Application-ID of a relay, and the Inband-Security-Id of a connection without security
pub use Rattle.dm_base.specs.declared.codes.TheConstants.{RELAY as relay, NO_INBAND_SECURITY as no_inband_security}

-- What crates above cite is defined here, since what a file hands on isn't exported.

-- Command Codes
abbrev pub capabilities_exchange : ℕ
capabilities_exchange = CAPABILITIES_EXCHANGE

abbrev pub device_watchdog : ℕ
device_watchdog = DEVICE_WATCHDOG

abbrev pub disconnect_peer : ℕ
disconnect_peer = DISCONNECT_PEER

-- AVP Codes
abbrev pub disconnect_cause : ℕ
disconnect_cause = DISCONNECT_CAUSE

abbrev pub result_code : ℕ
result_code = RESULT_CODE

-- the Result-Code DIAMETER_SUCCESS
abbrev pub success : ℕ
success = SUCCESS

-- Own limits: the octets of a host, a realm or a product; the addresses of a node; its ids of one kind of application;
-- the AVP Length of a failed AVP that is handed back
abbrev pub max_name_len : ℕ
max_name_len = 255

abbrev pub max_addresses : ℕ
max_addresses = 64

abbrev pub max_ids : ℕ
max_ids = 256

abbrev pub longest_failed : ℕ
longest_failed = 4096
