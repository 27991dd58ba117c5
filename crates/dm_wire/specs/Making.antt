-- The header of an answer, and the Result-Codes of faults (RFC 6733, 6.2 and 7.1).
use Rattle.std.specs.Prelude.{ℕ, false, Option, None, Some}
use Rattle.dm_wire.specs.declared.message.Header.{Header}
use Rattle.dm_wire.specs.declared.fault.WireFault.{WireFault}
use Rattle.dm_wire.specs.declared.fault.WireFault.TheVariants.{TooShort, Version, Length, AvpLength, TooLong, NoMemory}

-- the request's header without its R, E and T bits (6.2)
abbrev pub header_answering : Header → Header
header_answering h = record h { request = false; error = false; retransmit = false }

-- what an answer tells of the fault: unsupported version, invalid AVP length or invalid message length (7.1.5)
abbrev pub fault_code : WireFault → Option ℕ
fault_code TooShort = Some 5015
fault_code Version = Some 5011
fault_code Length = Some 5015
fault_code (AvpLength o) = Some 5014
fault_code TooLong = None
fault_code NoMemory = None
