-- What octets of a type mean (RFC 6733, 4.2 to 4.4). Numbers are in network byte order.
use Rattle.std.specs.Prelude.{◌≡◌, ◌≢◌, ℕ, ◌^◌, ◌<◌, ◌≤◌, ◌⊎◌, None, FitsSigned, List, [], ◌∷◌, length, drop}
use Rattle.std.specs.Int.{cast_signed, w32, w64}
use Rattle.std.specs.Str.{IsUtf8}
use Rattle.std.specs.List.{All}
use Rattle.byteorder.specs.Endian.{big_number}
use Rattle.dm_wire.specs.Spelling.{SpellsList}
use Rattle.dm_wire.specs.Limits.{IsLongList}
use Rattle.dm_value.specs.declared.avp_type.AvpType.{AvpType}
use Rattle.dm_value.specs.declared.avp_type.AvpType.TheVariants.{OctetString, Integer32, Integer64, Unsigned32}
use Rattle.dm_value.specs.declared.avp_type.AvpType.TheVariants.{Unsigned64, Address, Time, UTF8String}
use Rattle.dm_value.specs.declared.avp_type.AvpType.TheVariants.{DiameterIdentity, DiameterURI, Enumerated, Grouped}
use Rattle.dm_value.specs.declared.value.Value.{Value}
use Rattle.dm_value.specs.declared.value.Value.TheVariants as value
use Rattle.dm_value.specs.declared.address.Address.TheVariants as address
use Rattle.dm_value.specs.declared.address.Ip.TheVariants.{V4, V6}
use Rattle.dm_value.specs.Columns.{family, IsVisibleOctet, HasUriForm}
use Rattle.dm_value.specs.Flaws.{flaw}

-- the octets s of a type have the value v
abbrev pub Means : AvpType → List ℕ → Value → Type 0
-- any octets (4.2)
Means OctetString s (value.Bytes b) = b ≡ s
-- signed numbers are two's complement (4.2)
Means Integer32 s (value.Int32 n) = (length s ≡ 4) × (n ≡ cast_signed w32 (big_number 4 s))
Means Integer64 s (value.Int64 n) = (length s ≡ 8) × (n ≡ cast_signed w64 (big_number 8 s))
Means Unsigned32 s (value.Uint32 n) = (length s ≡ 4) × (n ≡ big_number 4 s)
Means Unsigned64 s (value.Uint64 n) = (length s ≡ 8) × (n ≡ big_number 8 s)
-- two octets of family, 1 for IPv4 and 2 for IPv6, and then the address (4.3.1)
Means Address s (value.Addr (address.Ip (V4 a))) = (s ≡ 0 ∷ 1 ∷ a) × (length a ≡ 4)
Means Address s (value.Addr (address.Ip (V6 a))) = (s ≡ 0 ∷ 2 ∷ a) × (length a ≡ 16)
Means Address s (value.Addr (address.Other n rest)) =
    (2 ≤ length s) × (n ≡ family s) × (rest ≡ drop 2 s) × (n ≢ 1) × (n ≢ 2)
-- the high 32 bits of an NTP timestamp (4.3.1)
Means Time s (value.Time n) = (length s ≡ 4) × (n ≡ big_number 4 s)
Means UTF8String s (value.Text t) = (t ≡ s) × IsUtf8 s
-- ASCII, no space and no control (4.3.1)
Means DiameterIdentity s (value.Identity b) = (b ≡ s) × (s ≢ []) × All IsVisibleOctet s
Means DiameterURI s (value.Uri b) = (b ≡ s) × HasUriForm s
-- derived from Integer32 (4.3.1)
Means Enumerated s (value.Enumerated n) = (length s ≡ 4) × (n ≡ cast_signed w32 (big_number 4 s))
-- AVPs, one after the other, each padded to a multiple of 4 (4.4)
Means Grouped s (value.Group l) = SpellsList l s
-- a value of another type
Means _ _ _ = ⊥

-- the type of which a value is
abbrev pub type_of : Value → AvpType
type_of (value.Bytes b) = OctetString
type_of (value.Int32 n) = Integer32
type_of (value.Int64 n) = Integer64
type_of (value.Uint32 n) = Unsigned32
type_of (value.Uint64 n) = Unsigned64
type_of (value.Addr a) = Address
type_of (value.Time n) = Time
type_of (value.Text t) = UTF8String
type_of (value.Identity b) = DiameterIdentity
type_of (value.Uri b) = DiameterURI
type_of (value.Enumerated n) = Enumerated
type_of (value.Group l) = Grouped

-- what the types of a program say of a value: its numbers fit, an IPv4 address has 4 octets, an IPv6 address 16, and a
-- text is UTF-8
abbrev pub IsInRange : Value → Type 0
IsInRange (value.Int32 n) = FitsSigned w32 n
IsInRange (value.Int64 n) = FitsSigned w64 n
IsInRange (value.Uint32 n) = n < 256 ^ 4
IsInRange (value.Uint64 n) = n < 256 ^ 8
IsInRange (value.Addr (address.Ip (V4 a))) = length a ≡ 4
IsInRange (value.Addr (address.Ip (V6 a))) = length a ≡ 16
IsInRange (value.Addr (address.Other n rest)) = n < 256 ^ 2
IsInRange (value.Time n) = n < 256 ^ 4
IsInRange (value.Text t) = IsUtf8 t
IsInRange (value.Enumerated n) = FitsSigned w32 n
IsInRange _ = Unit {0}

-- no octets have this value
abbrev pub HasNoOctets : Value → Type 0
HasNoOctets v = (s : List ℕ) → Means (type_of v) s v → ⊥

-- a group, and the AVP Length of a member is above its limit (4.1)
abbrev pub HasLongMember : Value → Type 0
HasLongMember (value.Group l) = IsLongList l
HasLongMember _ = ⊥

-- a value that is of its type in no octets: a family of IP given as another, an identity or a URI not of its form
abbrev pub IsMisshapen : Value → Type 0
IsMisshapen (value.Addr (address.Other n rest)) = (n ≡ 1) ⊎ (n ≡ 2)
IsMisshapen (value.Identity b) = flaw DiameterIdentity b ≢ None
IsMisshapen (value.Uri b) = flaw DiameterURI b ≢ None
IsMisshapen _ = ⊥
