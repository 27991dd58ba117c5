-- Why octets are no message: the Result-Code and words (RFC 6733, 7.1.5 and 7.2).
use Rattle.std.specs.Prelude.{ℕ, List, [], ◌++◌, codes}
use Rattle.std.specs.Fmt.{decimal}
use Rattle.dm_wire.specs.declared.fault.WireFault.{WireFault}
use Rattle.dm_wire.specs.declared.fault.WireFault.TheVariants.{TooShort, Version, Length, AvpLength, TooLong, NoMemory}

unfoldable pub refusal_words : WireFault → List ℕ
refusal_words TooShort = codes "5015 DIAMETER_INVALID_MESSAGE_LENGTH: fewer octets than a header has"
refusal_words Version = codes "5011 DIAMETER_UNSUPPORTED_VERSION: the first octet isn't 1"
refusal_words Length = codes "5015 DIAMETER_INVALID_MESSAGE_LENGTH: wrong length"
refusal_words (AvpLength offset) = codes "5014 DIAMETER_INVALID_AVP_LENGTH: no AVP at octet " ++ decimal offset
refusal_words TooLong = []
refusal_words NoMemory = []

abbrev pub refusal_sentence : WireFault → List ℕ
refusal_sentence fault = codes "no message: " ++ refusal_words fault
