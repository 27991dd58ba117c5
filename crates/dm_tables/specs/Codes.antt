-- The numbers of the base dictionary (RFC 6733, 3.1 and 4.5), as the code names them.
-- AVP Codes
pub use Rattle.dm_wire.specs.declared.codes.avps.TheConstants.{USER_NAME as user_name, CLASS as class}
pub use Rattle.dm_wire.specs.declared.codes.avps.TheConstants.{PROXY_STATE as proxy_state}
pub use Rattle.dm_wire.specs.declared.codes.avps.TheConstants.{EVENT_TIMESTAMP as event_timestamp}
pub use Rattle.dm_wire.specs.declared.codes.avps.TheConstants.{HOST_IP_ADDRESS as host_ip_address}
pub use Rattle.dm_wire.specs.declared.codes.avps.TheConstants.{AUTH_APPLICATION_ID as auth_application_id}
pub use Rattle.dm_wire.specs.declared.codes.avps.TheConstants.{ACCT_APPLICATION_ID as acct_application_id}
pub use Rattle.dm_wire.specs.declared.codes.avps.TheConstants.{
  VENDOR_SPECIFIC_APPLICATION_ID as vendor_specific_application_id,
}
pub use Rattle.dm_wire.specs.declared.codes.avps.TheConstants.{SESSION_ID as session_id, ORIGIN_HOST as origin_host}
pub use Rattle.dm_wire.specs.declared.codes.avps.TheConstants.{SUPPORTED_VENDOR_ID as supported_vendor_id}
pub use Rattle.dm_wire.specs.declared.codes.avps.TheConstants.{VENDOR_ID as vendor_id}
pub use Rattle.dm_wire.specs.declared.codes.avps.TheConstants.{FIRMWARE_REVISION as firmware_revision}
pub use Rattle.dm_wire.specs.declared.codes.avps.TheConstants.{RESULT_CODE as result_code, PRODUCT_NAME as product_name}
pub use Rattle.dm_wire.specs.declared.codes.avps.TheConstants.{DISCONNECT_CAUSE as disconnect_cause}
pub use Rattle.dm_wire.specs.declared.codes.avps.TheConstants.{ORIGIN_STATE_ID as origin_state_id}
pub use Rattle.dm_wire.specs.declared.codes.avps.TheConstants.{FAILED_AVP as failed_avp, PROXY_HOST as proxy_host}
pub use Rattle.dm_wire.specs.declared.codes.avps.TheConstants.{ERROR_MESSAGE as error_message}
pub use Rattle.dm_wire.specs.declared.codes.avps.TheConstants.{DESTINATION_REALM as destination_realm}
pub use Rattle.dm_wire.specs.declared.codes.avps.TheConstants.{PROXY_INFO as proxy_info, REDIRECT_HOST as redirect_host}
pub use Rattle.dm_wire.specs.declared.codes.avps.TheConstants.{DESTINATION_HOST as destination_host}
pub use Rattle.dm_wire.specs.declared.codes.avps.TheConstants.{ERROR_REPORTING_HOST as error_reporting_host}
pub use Rattle.dm_wire.specs.declared.codes.avps.TheConstants.{ORIGIN_REALM as origin_realm}
pub use Rattle.dm_wire.specs.declared.codes.avps.TheConstants.{EXPERIMENTAL_RESULT as experimental_result}
pub use Rattle.dm_wire.specs.declared.codes.avps.TheConstants.{EXPERIMENTAL_RESULT_CODE as experimental_result_code}
pub use Rattle.dm_wire.specs.declared.codes.avps.TheConstants.{INBAND_SECURITY_ID as inband_security_id}
-- Command Codes
pub use Rattle.dm_wire.specs.declared.codes.commands.TheConstants.{CAPABILITIES_EXCHANGE as capabilities_exchange}
pub use Rattle.dm_wire.specs.declared.codes.commands.TheConstants.{DEVICE_WATCHDOG as device_watchdog}
pub use Rattle.dm_wire.specs.declared.codes.commands.TheConstants.{DISCONNECT_PEER as disconnect_peer}
