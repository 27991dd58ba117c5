-- What show prints for a message and for octets that are no message.
use Rattle.std.specs.Prelude.{ℕ, List, [], ◌∷◌, ◌++◌, codes}
use Rattle.std.specs.Fmt.{decimal}
use Rattle.std.specs.List.{flat_map}
use Rattle.dm_wire.specs.declared.avp.Avp.{Avp}
use Rattle.dm_wire.specs.declared.message.Message.{Message}
use Rattle.dm_wire.specs.declared.fault.WireFault.{WireFault}
use Rattle.dm_wire.specs.declared.fault.WireFault.TheVariants.{TooShort, Version, Length, AvpLength, TooLong, NoMemory}
pub use Rattle.dm_wire.specs.Printed.{flag_mark, header_marks, avp_marks, header_letters}
pub use Rattle.dm_wire.specs.Printed.{avp_letters, header_text, avp_text}

-- an AVP's line
unfoldable pub shown_avp : Avp → List ℕ
shown_avp a = codes "  " ++ avp_text a ++ 10 ∷ []

-- a message's lines
unfoldable pub message_text : Message → List ℕ
message_text m = header_text m.header ++ 10 ∷ flat_map shown_avp m.avps

-- the words for a fault (the numbers are Result-Codes of RFC 6733, 7.1)
unfoldable pub fault_text : WireFault → List ℕ
fault_text TooShort = codes "fault 5015 TooShort"
fault_text Version = codes "fault 5011 Version"
fault_text Length = codes "fault 5015 Length"
fault_text (AvpLength offset) = codes "fault 5014 AvpLength " ++ decimal offset
fault_text TooLong = codes "fault TooLong"
fault_text NoMemory = []
