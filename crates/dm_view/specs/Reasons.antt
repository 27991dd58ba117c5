-- Why an AVP is a fault, in words (own; the codes are those of RFC 6733, 7.1.5).
use Rattle.std.specs.Prelude.{ℕ, Bool, ◌||◌, nat_eq, Option, None, Some, List, [], ◌++◌, codes, if◌then◌else◌}
use Rattle.std.specs.Fmt.{decimal}
use Rattle.dm_value.specs.declared.avp_type.AvpType.{AvpType}
use Rattle.dm_value.specs.declared.avp_type.AvpType.TheVariants.{OctetString, Address, UTF8String}
use Rattle.dm_value.specs.declared.avp_type.AvpType.TheVariants.{DiameterIdentity, DiameterURI, Grouped}
use Rattle.dm_value.specs.Columns.{least_length}
use Rattle.dm_dict.specs.Codes.{avp_unsupported, invalid_avp_value, avp_not_allowed}
use Rattle.dm_dict.specs.Codes.{avp_occurs_too_many_times, invalid_avp_length}

-- numbers and times have one length, all other types a least one (4.2 and 4.3)
abbrev pub bound_words : AvpType → List ℕ
bound_words OctetString = codes ", at least "
bound_words Address = codes ", at least "
bound_words UTF8String = codes ", at least "
bound_words DiameterIdentity = codes ", at least "
bound_words DiameterURI = codes ", at least "
bound_words Grouped = codes ", at least "
bound_words kind = codes ", not "

-- data of this length, which its type doesn't have; of a group its octets are no AVPs one after the other (4.4)
abbrev pub length_words : Option AvpType → ℕ → List ℕ
length_words None n = codes "length " ++ decimal n
length_words (Some Grouped) n = codes "no AVPs one after the other"
length_words (Some kind) n = codes "length " ++ decimal n ++ bound_words kind ++ decimal (least_length kind)

-- why an AVP of this type, whose data has this length, is a fault of the Result-Code
abbrev pub reason_words : ℕ → Option AvpType → ℕ → List ℕ
reason_words code kind n =
    if nat_eq code avp_unsupported then codes "not known, and mandatory"
    else (if nat_eq code avp_not_allowed then codes "not allowed here"
    else (if nat_eq code avp_occurs_too_many_times then codes "one too many"
    else (if nat_eq code invalid_avp_value then codes "wrong value"
    else (if nat_eq code invalid_avp_length then length_words kind n
    else []))))

-- the Result-Codes of which it is told
abbrev pub has_reason : ℕ → Bool
has_reason code = nat_eq code avp_unsupported || (nat_eq code avp_not_allowed || (nat_eq code avp_occurs_too_many_times
    || (nat_eq code invalid_avp_value || nat_eq code invalid_avp_length)))

-- behind the front of the AVP
abbrev pub reason_text : ℕ → Option AvpType → ℕ → List ℕ
reason_text code kind n = if has_reason code then codes ": " ++ reason_words code kind n else []
