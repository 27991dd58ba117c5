-- What octets spell: AVPs, lists of AVPs, headers and messages (RFC 6733, 3 and 4.1).
-- These are relations, for padding and reserved bits are free. An octet is a number; in the lists of a program it is
-- below 256.
use Rattle.std.specs.Prelude.{◌≡◌, ℕ, ◌+◌, ◌%◌, ◌^◌, ◌<◌, ◌≤◌, Bool, not, nat_eq, bit_and}
use Rattle.std.specs.Prelude.{Option, None, Some, IfSome, is_some, List, [], ◌∷◌, ◌++◌, length}
use Rattle.std.specs.Int.{bytes_high_first}
use Rattle.dm_wire.specs.declared.avp.Avp.{Avp}
use Rattle.dm_wire.specs.declared.message.Header.{Header}
use Rattle.dm_wire.specs.declared.message.Message.{Message}
use Rattle.dm_wire.specs.Codes.{max_message_len}

-- the k octets of a number, the most significant first (3: network byte order)
abbrev pub be : ℕ → ℕ → List ℕ
be n k = bytes_high_first k n

-- the bit of this worth is set in the flag octet
abbrev pub is_bit_set : ℕ → ℕ → Bool
is_bit_set octet worth = not (nat_eq (bit_and octet worth) 0)

-- the octets of an AVP's header: 8, with a Vendor-ID 12 (4.1)
abbrev pub avp_header_len : Option ℕ → ℕ
avp_header_len None = 8
avp_header_len (Some vendor) = 12

-- the AVP Length: header and data, without the padding (4.1)
abbrev pub avp_length : Avp → ℕ
avp_length a = avp_header_len a.vendor + length a.bytes

-- the Vendor-ID field, where there is one (4.1)
abbrev pub vendor_octets : Option ℕ → List ℕ
vendor_octets None = []
vendor_octets (Some vendor) = be vendor 4

-- s spells the AVP a: code, flags V M P, Length, Vendor-ID, data and the least padding to a multiple of 4 (4.1)
pub record SpellsAvp (a : Avp) (s : List ℕ) : Type 0 where
  pub flags : ℕ
  pub padding : List ℕ
  pub whole : s ≡ be a.code 4 ++ flags ∷ be (avp_length a) 3 ++ vendor_octets a.vendor ++ a.bytes ++ padding
  pub vendor_bit : is_bit_set flags 128 ≡ is_some a.vendor
  pub mandatory_bit : is_bit_set flags 64 ≡ a.mandatory
  pub protected_bit : is_bit_set flags 32 ≡ a.protected
  pub least : length padding < 4
  pub aligned : length s % 4 ≡ 0
  pub code_fits : a.code < 256 ^ 4
  pub length_fits : avp_length a < 256 ^ 3
  pub vendor_fits : IfSome a.vendor (λ vendor. vendor < 256 ^ 4)

-- s is the spellings of the AVPs, one after the other
abbrev pub SpellsList : List Avp → List ℕ → Type 0
SpellsList [] s = s ≡ []
SpellsList (a ∷ l) s = (first : List ℕ) × (rest : List ℕ) × (s ≡ first ++ rest) × SpellsAvp a first × SpellsList l rest

-- s is the 20 octets of the header of a message of this size: version 1, size, flags R P E T, command, application,
-- Hop-by-Hop and End-to-End Identifiers (3)
pub record SpellsHeader (h : Header) (size : ℕ) (s : List ℕ) : Type 0 where
  pub flags : ℕ
  pub whole : s ≡ 1 ∷ be size 3 ++ flags ∷ be h.command 3 ++ be h.application 4 ++ be h.hop_id 4 ++ be h.end_id 4
  pub request_bit : is_bit_set flags 128 ≡ h.request
  pub proxiable_bit : is_bit_set flags 64 ≡ h.proxiable
  pub error_bit : is_bit_set flags 32 ≡ h.error
  pub retransmit_bit : is_bit_set flags 16 ≡ h.retransmit
  pub size_fits : size ≤ max_message_len
  pub command_fits : h.command < 256 ^ 3
  pub application_fits : h.application < 256 ^ 4
  pub hop_fits : h.hop_id < 256 ^ 4
  pub end_fits : h.end_id < 256 ^ 4

-- s spells the message: a header that gives the size of s, and then the AVPs (3)
pub record SpellsMessage (m : Message) (s : List ℕ) : Type 0 where
  pub front : List ℕ
  pub rest : List ℕ
  pub whole : s ≡ front ++ rest
  pub header : SpellsHeader m.header (length s) front
  pub avps : SpellsList m.avps rest
