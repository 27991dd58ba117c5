-- The Result-Codes of verdicts (RFC 6733, 7.1.3 and 7.1.5), and the AVP Code of Failed-AVP (7.5), as the code has them.
pub use Rattle.dm_wire.specs.declared.codes.results.TheConstants.{COMMAND_UNSUPPORTED as command_unsupported}
pub use Rattle.dm_wire.specs.declared.codes.results.TheConstants.{INVALID_HDR_BITS as invalid_hdr_bits}
pub use Rattle.dm_wire.specs.declared.codes.results.TheConstants.{AVP_UNSUPPORTED as avp_unsupported}
pub use Rattle.dm_wire.specs.declared.codes.results.TheConstants.{INVALID_AVP_VALUE as invalid_avp_value}
pub use Rattle.dm_wire.specs.declared.codes.results.TheConstants.{
  MISSING_AVP as missing_avp,
  AVP_NOT_ALLOWED as avp_not_allowed,
  AVP_OCCURS_TOO_MANY_TIMES as avp_occurs_too_many_times,
  INVALID_AVP_LENGTH as invalid_avp_length,
}
pub use Rattle.dm_wire.specs.declared.codes.avps.TheConstants.{FAILED_AVP as failed_avp}
