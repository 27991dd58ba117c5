-- The numbers of the base protocol, as numbers: each constant of the code is the number beside it.
use Rattle.std.specs.Prelude.{◌≡◌}
use Rattle.dm_wire.specs.declared.codes.avps.TheConstants.{ACCT_APPLICATION_ID, ACCT_INTERIM_INTERVAL}
use Rattle.dm_wire.specs.declared.codes.avps.TheConstants.{ACCT_MULTI_SESSION_ID, ACCT_SESSION_ID}
use Rattle.dm_wire.specs.declared.codes.avps.TheConstants.{ACCOUNTING_REALTIME_REQUIRED, ACCOUNTING_RECORD_NUMBER}
use Rattle.dm_wire.specs.declared.codes.avps.TheConstants.{ACCOUNTING_RECORD_TYPE, ACCOUNTING_SUB_SESSION_ID}
use Rattle.dm_wire.specs.declared.codes.avps.TheConstants.{AUTH_APPLICATION_ID, AUTH_GRACE_PERIOD, AUTH_REQUEST_TYPE}
use Rattle.dm_wire.specs.declared.codes.avps.TheConstants.{AUTH_SESSION_STATE, AUTHORIZATION_LIFETIME, CLASS}
use Rattle.dm_wire.specs.declared.codes.avps.TheConstants.{DESTINATION_HOST, DESTINATION_REALM, DISCONNECT_CAUSE}
use Rattle.dm_wire.specs.declared.codes.avps.TheConstants.{ERROR_MESSAGE, ERROR_REPORTING_HOST, EVENT_TIMESTAMP}
use Rattle.dm_wire.specs.declared.codes.avps.TheConstants.{EXPERIMENTAL_RESULT, EXPERIMENTAL_RESULT_CODE, FAILED_AVP}
use Rattle.dm_wire.specs.declared.codes.avps.TheConstants.{FIRMWARE_REVISION, HOST_IP_ADDRESS, INBAND_SECURITY_ID}
use Rattle.dm_wire.specs.declared.codes.avps.TheConstants.{MULTI_ROUND_TIME_OUT, ORIGIN_HOST, ORIGIN_REALM}
use Rattle.dm_wire.specs.declared.codes.avps.TheConstants.{ORIGIN_STATE_ID, PRODUCT_NAME, PROXY_HOST, PROXY_INFO}
use Rattle.dm_wire.specs.declared.codes.avps.TheConstants.{PROXY_STATE, RE_AUTH_REQUEST_TYPE, REDIRECT_HOST}
use Rattle.dm_wire.specs.declared.codes.avps.TheConstants.{REDIRECT_HOST_USAGE, REDIRECT_MAX_CACHE_TIME, RESULT_CODE}
use Rattle.dm_wire.specs.declared.codes.avps.TheConstants.{ROUTE_RECORD, SESSION_BINDING, SESSION_ID}
use Rattle.dm_wire.specs.declared.codes.avps.TheConstants.{SESSION_SERVER_FAILOVER, SESSION_TIMEOUT}
use Rattle.dm_wire.specs.declared.codes.avps.TheConstants.{SUPPORTED_VENDOR_ID, TERMINATION_CAUSE, USER_NAME}
use Rattle.dm_wire.specs.declared.codes.avps.TheConstants.{VENDOR_ID, VENDOR_SPECIFIC_APPLICATION_ID}
use Rattle.dm_wire.specs.declared.codes.commands.TheConstants.{ABORT_SESSION, ACCOUNTING, CAPABILITIES_EXCHANGE}
use Rattle.dm_wire.specs.declared.codes.commands.TheConstants.{DEVICE_WATCHDOG, DISCONNECT_PEER, RE_AUTH}
use Rattle.dm_wire.specs.declared.codes.commands.TheConstants.{SESSION_TERMINATION}
use Rattle.dm_wire.specs.declared.codes.results.TheConstants.{MULTI_ROUND_AUTH, SUCCESS, LIMITED_SUCCESS}
use Rattle.dm_wire.specs.declared.codes.results.TheConstants.{COMMAND_UNSUPPORTED, UNABLE_TO_DELIVER}
use Rattle.dm_wire.specs.declared.codes.results.TheConstants.{REALM_NOT_SERVED, TOO_BUSY, LOOP_DETECTED}
use Rattle.dm_wire.specs.declared.codes.results.TheConstants.{REDIRECT_INDICATION, APPLICATION_UNSUPPORTED}
use Rattle.dm_wire.specs.declared.codes.results.TheConstants.{INVALID_HDR_BITS, INVALID_AVP_BITS, UNKNOWN_PEER}
use Rattle.dm_wire.specs.declared.codes.results.TheConstants.{AUTHENTICATION_REJECTED, OUT_OF_SPACE, ELECTION_LOST}
use Rattle.dm_wire.specs.declared.codes.results.TheConstants.{AVP_UNSUPPORTED, UNKNOWN_SESSION_ID}
use Rattle.dm_wire.specs.declared.codes.results.TheConstants.{AUTHORIZATION_REJECTED, INVALID_AVP_VALUE, MISSING_AVP}
use Rattle.dm_wire.specs.declared.codes.results.TheConstants.{RESOURCES_EXCEEDED, CONTRADICTING_AVPS, AVP_NOT_ALLOWED}
use Rattle.dm_wire.specs.declared.codes.results.TheConstants.{AVP_OCCURS_TOO_MANY_TIMES, NO_COMMON_APPLICATION}
use Rattle.dm_wire.specs.declared.codes.results.TheConstants.{UNSUPPORTED_VERSION, UNABLE_TO_COMPLY}
use Rattle.dm_wire.specs.declared.codes.results.TheConstants.{INVALID_BIT_IN_HEADER, INVALID_AVP_LENGTH}
use Rattle.dm_wire.specs.declared.codes.results.TheConstants.{INVALID_MESSAGE_LENGTH, INVALID_AVP_BIT_COMBO}
use Rattle.dm_wire.specs.declared.codes.results.TheConstants.{NO_COMMON_SECURITY}
use Rattle.dm_wire.specs.declared.codes.limits.TheConstants.{HEADER_LEN, MAX_COMMAND, MAX_AVP_LEN, MAX_MESSAGE_LEN}

-- AVP Codes: those of the base protocol (RFC 6733, 4.5)
pub record AvpCodes : Type 0 where
  pub acct_application_id : ACCT_APPLICATION_ID ≡ 259
  pub acct_interim_interval : ACCT_INTERIM_INTERVAL ≡ 85
  pub acct_multi_session_id : ACCT_MULTI_SESSION_ID ≡ 50
  pub acct_session_id : ACCT_SESSION_ID ≡ 44
  pub accounting_realtime_required : ACCOUNTING_REALTIME_REQUIRED ≡ 483
  pub accounting_record_number : ACCOUNTING_RECORD_NUMBER ≡ 485
  pub accounting_record_type : ACCOUNTING_RECORD_TYPE ≡ 480
  pub accounting_sub_session_id : ACCOUNTING_SUB_SESSION_ID ≡ 287
  pub auth_application_id : AUTH_APPLICATION_ID ≡ 258
  pub auth_grace_period : AUTH_GRACE_PERIOD ≡ 276
  pub auth_request_type : AUTH_REQUEST_TYPE ≡ 274
  pub auth_session_state : AUTH_SESSION_STATE ≡ 277
  pub authorization_lifetime : AUTHORIZATION_LIFETIME ≡ 291
  pub class : CLASS ≡ 25
  pub destination_host : DESTINATION_HOST ≡ 293
  pub destination_realm : DESTINATION_REALM ≡ 283
  pub disconnect_cause : DISCONNECT_CAUSE ≡ 273
  pub error_message : ERROR_MESSAGE ≡ 281
  pub error_reporting_host : ERROR_REPORTING_HOST ≡ 294
  pub event_timestamp : EVENT_TIMESTAMP ≡ 55
  pub experimental_result : EXPERIMENTAL_RESULT ≡ 297
  pub experimental_result_code : EXPERIMENTAL_RESULT_CODE ≡ 298
  pub failed_avp : FAILED_AVP ≡ 279
  pub firmware_revision : FIRMWARE_REVISION ≡ 267
  pub host_ip_address : HOST_IP_ADDRESS ≡ 257
  pub inband_security_id : INBAND_SECURITY_ID ≡ 299
  pub multi_round_time_out : MULTI_ROUND_TIME_OUT ≡ 272
  pub origin_host : ORIGIN_HOST ≡ 264
  pub origin_realm : ORIGIN_REALM ≡ 296
  pub origin_state_id : ORIGIN_STATE_ID ≡ 278
  pub product_name : PRODUCT_NAME ≡ 269
  pub proxy_host : PROXY_HOST ≡ 280
  pub proxy_info : PROXY_INFO ≡ 284
  pub proxy_state : PROXY_STATE ≡ 33
  pub re_auth_request_type : RE_AUTH_REQUEST_TYPE ≡ 285
  pub redirect_host : REDIRECT_HOST ≡ 292
  pub redirect_host_usage : REDIRECT_HOST_USAGE ≡ 261
  pub redirect_max_cache_time : REDIRECT_MAX_CACHE_TIME ≡ 262
  pub result_code : RESULT_CODE ≡ 268
  pub route_record : ROUTE_RECORD ≡ 282
  pub session_binding : SESSION_BINDING ≡ 270
  pub session_id : SESSION_ID ≡ 263
  pub session_server_failover : SESSION_SERVER_FAILOVER ≡ 271
  pub session_timeout : SESSION_TIMEOUT ≡ 27
  pub supported_vendor_id : SUPPORTED_VENDOR_ID ≡ 265
  pub termination_cause : TERMINATION_CAUSE ≡ 295
  pub user_name : USER_NAME ≡ 1
  pub vendor_id : VENDOR_ID ≡ 266
  pub vendor_specific_application_id : VENDOR_SPECIFIC_APPLICATION_ID ≡ 260

-- Command Codes: those of the base protocol (3.1)
pub record CommandCodes : Type 0 where
  pub abort_session : ABORT_SESSION ≡ 274
  pub accounting : ACCOUNTING ≡ 271
  pub capabilities_exchange : CAPABILITIES_EXCHANGE ≡ 257
  pub device_watchdog : DEVICE_WATCHDOG ≡ 280
  pub disconnect_peer : DISCONNECT_PEER ≡ 282
  pub re_auth : RE_AUTH ≡ 258
  pub session_termination : SESSION_TERMINATION ≡ 275

-- Result-Codes (7.1)
pub record ResultCodes : Type 0 where
  pub multi_round_auth : MULTI_ROUND_AUTH ≡ 1001
  pub success : SUCCESS ≡ 2001
  pub limited_success : LIMITED_SUCCESS ≡ 2002
  pub command_unsupported : COMMAND_UNSUPPORTED ≡ 3001
  pub unable_to_deliver : UNABLE_TO_DELIVER ≡ 3002
  pub realm_not_served : REALM_NOT_SERVED ≡ 3003
  pub too_busy : TOO_BUSY ≡ 3004
  pub loop_detected : LOOP_DETECTED ≡ 3005
  pub redirect_indication : REDIRECT_INDICATION ≡ 3006
  pub application_unsupported : APPLICATION_UNSUPPORTED ≡ 3007
  pub invalid_hdr_bits : INVALID_HDR_BITS ≡ 3008
  pub invalid_avp_bits : INVALID_AVP_BITS ≡ 3009
  pub unknown_peer : UNKNOWN_PEER ≡ 3010
  pub authentication_rejected : AUTHENTICATION_REJECTED ≡ 4001
  pub out_of_space : OUT_OF_SPACE ≡ 4002
  pub election_lost : ELECTION_LOST ≡ 4003
  pub avp_unsupported : AVP_UNSUPPORTED ≡ 5001
  pub unknown_session_id : UNKNOWN_SESSION_ID ≡ 5002
  pub authorization_rejected : AUTHORIZATION_REJECTED ≡ 5003
  pub invalid_avp_value : INVALID_AVP_VALUE ≡ 5004
  pub missing_avp : MISSING_AVP ≡ 5005
  pub resources_exceeded : RESOURCES_EXCEEDED ≡ 5006
  pub contradicting_avps : CONTRADICTING_AVPS ≡ 5007
  pub avp_not_allowed : AVP_NOT_ALLOWED ≡ 5008
  pub avp_occurs_too_many_times : AVP_OCCURS_TOO_MANY_TIMES ≡ 5009
  pub no_common_application : NO_COMMON_APPLICATION ≡ 5010
  pub unsupported_version : UNSUPPORTED_VERSION ≡ 5011
  pub unable_to_comply : UNABLE_TO_COMPLY ≡ 5012
  pub invalid_bit_in_header : INVALID_BIT_IN_HEADER ≡ 5013
  pub invalid_avp_length : INVALID_AVP_LENGTH ≡ 5014
  pub invalid_message_length : INVALID_MESSAGE_LENGTH ≡ 5015
  pub invalid_avp_bit_combo : INVALID_AVP_BIT_COMBO ≡ 5016
  pub no_common_security : NO_COMMON_SECURITY ≡ 5017

-- the octets of a header, and the greatest numbers that fields hold (3 and 4.1)
pub record Limits : Type 0 where
  pub header_len : HEADER_LEN ≡ 20
  pub max_command : MAX_COMMAND ≡ 16777215
  pub max_avp_len : MAX_AVP_LEN ≡ 16777215
  pub max_message_len : MAX_MESSAGE_LEN ≡ 16777212
