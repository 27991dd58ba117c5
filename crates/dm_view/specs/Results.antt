-- What the Result-Codes of verdicts are called (RFC 6733, 7.1.3 and 7.1.5).
use Rattle.std.specs.Prelude.{ℕ, nat_eq, List, ◌++◌, codes, if◌then◌else◌}
use Rattle.std.specs.Fmt.{decimal}
use Rattle.dm_dict.specs.Codes.{command_unsupported, invalid_hdr_bits, avp_unsupported, invalid_avp_value}
use Rattle.dm_dict.specs.Codes.{missing_avp, avp_not_allowed, avp_occurs_too_many_times, invalid_avp_length}

-- those of AVPs (7.1.5)
abbrev pub avp_result : ℕ → List ℕ
avp_result code =
    if nat_eq code avp_unsupported then codes "DIAMETER_AVP_UNSUPPORTED"
    else (if nat_eq code invalid_avp_value then codes "DIAMETER_INVALID_AVP_VALUE"
    else (if nat_eq code missing_avp then codes "DIAMETER_MISSING_AVP"
    else (if nat_eq code avp_not_allowed then codes "DIAMETER_AVP_NOT_ALLOWED"
    else (if nat_eq code avp_occurs_too_many_times then codes "DIAMETER_AVP_OCCURS_TOO_MANY_TIMES"
    else (if nat_eq code invalid_avp_length then codes "DIAMETER_INVALID_AVP_LENGTH"
    else codes "Result-Code")))))

-- those of commands and headers (7.1.3)
abbrev pub result_name : ℕ → List ℕ
result_name code =
    if nat_eq code command_unsupported then codes "DIAMETER_COMMAND_UNSUPPORTED"
    else (if nat_eq code invalid_hdr_bits then codes "DIAMETER_INVALID_HDR_BITS"
    else avp_result code)

-- the number and the name
abbrev pub result_text : ℕ → List ℕ
result_text code = decimal code ++ codes " " ++ result_name code
