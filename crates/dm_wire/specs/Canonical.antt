-- The canonical spellings: zero padding and zero reserved bits (RFC 6733, 3 and 4.1).
use Rattle.std.specs.Prelude.{ℕ, ◌+◌, ◌-◌, ◌%◌, Bool, if◌then◌else◌, is_some, List, ◌∷◌, ◌++◌, length, replicate}
use Rattle.std.specs.List.{flat_map}
use Rattle.dm_wire.specs.declared.avp.Avp.{Avp}
use Rattle.dm_wire.specs.declared.message.Header.{Header}
use Rattle.dm_wire.specs.declared.message.Message.{Message}
use Rattle.dm_wire.specs.Spelling.{be, avp_length, vendor_octets}

-- what a bit of this worth adds to the flag octet
abbrev pub worth : Bool → ℕ → ℕ
worth set bit = if set then bit else 0

-- the flag octet of an AVP: V M P, then five zero bits (4.1)
abbrev pub avp_flags : Avp → ℕ
avp_flags a = worth (is_some a.vendor) 128 + worth a.mandatory 64 + worth a.protected 32

-- the least number of zero octets that fills n octets up to a multiple of 4 (4.1)
abbrev pub zeros : ℕ → List ℕ
zeros n = replicate ((4 - n % 4) % 4) 0

-- the AVP with zero reserved bits and zero padding (4.1)
abbrev pub canonical_avp : Avp → List ℕ
canonical_avp a = be a.code 4 ++ avp_flags a ∷ be (avp_length a) 3 ++ vendor_octets a.vendor ++ a.bytes ++
    zeros (avp_length a)

-- the AVPs, one after the other
abbrev pub canonical_list : List Avp → List ℕ
canonical_list l = flat_map canonical_avp l

-- the flag octet R P E T, then four zero bits (3)
abbrev pub flag_octet : Bool → Bool → Bool → Bool → ℕ
flag_octet r p e t = worth r 128 + worth p 64 + worth e 32 + worth t 16

-- the flag octet of a message (3)
abbrev pub header_flags : Header → ℕ
header_flags h = flag_octet h.request h.proxiable h.error h.retransmit

-- the header of a message of this size, with zero reserved bits (3)
abbrev pub canonical_header : Header → ℕ → List ℕ
canonical_header h size = 1 ∷ be size 3 ++ header_flags h ∷ be h.command 3 ++ be h.application 4 ++ be h.hop_id 4 ++
    be h.end_id 4

-- the octets that a message takes: its header and its AVPs (3)
abbrev pub message_size : Message → ℕ
message_size m = 20 + length (canonical_list m.avps)

-- the message with zero reserved bits and zero padding (3)
abbrev pub canonical_message : Message → List ℕ
canonical_message m = canonical_header m.header (message_size m) ++ canonical_list m.avps
