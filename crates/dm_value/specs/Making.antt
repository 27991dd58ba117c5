-- The Result-Codes of what data has wrong (RFC 6733, 7.1.5).
use Rattle.std.specs.Prelude.{ℕ, Option, None, Some}
use Rattle.dm_value.specs.declared.fault.ValueFault.{ValueFault}
use Rattle.dm_value.specs.declared.fault.ValueFault.TheVariants.{WrongLength, WrongValue, TooLong, NoMemory}

-- what an answer tells of the fault: invalid AVP length or invalid AVP value
abbrev pub value_fault_code : ValueFault → Option ℕ
value_fault_code WrongLength = Some 5014
value_fault_code WrongValue = Some 5004
value_fault_code TooLong = None
value_fault_code NoMemory = None
