-- The types of AVP data: the least length of each, when its octets have a wrong length, and when a wrong value
-- (RFC 6733, 4.2 to 4.4 and 7.1.5).
use Rattle.std.specs.Prelude.{◌≡◌, ◌≢◌, ℕ, ◌<◌, ◌≤◌, ◌⊎◌, List, [], ◌++◌, length, codes}
use Rattle.std.specs.List.{All}
use Rattle.std.specs.Str.{IsUtf8}
use Rattle.byteorder.specs.Endian.{big_number}
use Rattle.dm_wire.specs.declared.avp.Avp.{Avp}
use Rattle.dm_wire.specs.Spelling.{SpellsList}
use Rattle.dm_value.specs.declared.avp_type.AvpType.{AvpType}
use Rattle.dm_value.specs.declared.avp_type.AvpType.TheVariants.{OctetString, Integer32, Integer64, Unsigned32}
use Rattle.dm_value.specs.declared.avp_type.AvpType.TheVariants.{Unsigned64, Address, Time, UTF8String}
use Rattle.dm_value.specs.declared.avp_type.AvpType.TheVariants.{DiameterIdentity, DiameterURI, Enumerated, Grouped}
use Rattle.dm_value.specs.declared.fault.ValueFault.{ValueFault}
use Rattle.dm_value.specs.declared.fault.ValueFault.TheVariants.{WrongLength, WrongValue, TooLong, NoMemory}

-- the least number of octets of data of a type
abbrev pub least_length : AvpType → ℕ
least_length OctetString = 0
least_length Integer32 = 4
least_length Integer64 = 8
least_length Unsigned32 = 4
least_length Unsigned64 = 8
least_length Address = 2
least_length Time = 4
least_length UTF8String = 0
least_length DiameterIdentity = 1
least_length DiameterURI = 7
least_length Enumerated = 4
least_length Grouped = 0

-- an octet that an identity or a URI may have: ASCII, no space and no control
abbrev pub IsVisibleOctet : ℕ → Type 0
IsVisibleOctet octet = (0x21 ≤ octet) × (octet ≤ 0x7e)

-- a URI's form, as far as it is looked at: a scheme in lower case, and at least one visible octet (4.3.1)
abbrev pub HasUriForm : List ℕ → Type 0
HasUriForm s =
    (rest : List ℕ) × ((s ≡ codes "aaa://" ++ rest) ⊎ (s ≡ codes "aaas://" ++ rest)) × (rest ≢ [])
    × All IsVisibleOctet rest

-- the address family: the first two octets (4.3.1)
abbrev pub family : List ℕ → ℕ
family s = big_number 2 s

-- octets of this type have a wrong length (5014)
abbrev pub HasWrongLength : AvpType → List ℕ → Type 0
HasWrongLength OctetString s = ⊥
HasWrongLength Integer32 s = length s ≢ 4
HasWrongLength Integer64 s = length s ≢ 8
HasWrongLength Unsigned32 s = length s ≢ 4
HasWrongLength Unsigned64 s = length s ≢ 8
HasWrongLength Address s = length s < 2
HasWrongLength Time s = length s ≢ 4
HasWrongLength UTF8String s = ⊥
HasWrongLength DiameterIdentity s = s ≡ []
HasWrongLength DiameterURI s = length s < 7
HasWrongLength Enumerated s = length s ≢ 4
HasWrongLength Grouped s = (l : List Avp) → SpellsList l s → ⊥

-- octets of this type have a wrong value, where their length isn't wrong (5004)
abbrev pub HasWrongValue : AvpType → List ℕ → Type 0
HasWrongValue Address s = ((family s ≡ 1) × (length s ≢ 6)) ⊎ ((family s ≡ 2) × (length s ≢ 18))
HasWrongValue UTF8String s = IsUtf8 s → ⊥
HasWrongValue DiameterIdentity s = All IsVisibleOctet s → ⊥
HasWrongValue DiameterURI s = HasUriForm s → ⊥
HasWrongValue _ s = ⊥

-- octets of this type are refused for this fault, memory aside: the length comes first
abbrev pub RefusesData : AvpType → List ℕ → ValueFault → Type 0
RefusesData kind s WrongLength = HasWrongLength kind s
RefusesData kind s WrongValue = (HasWrongLength kind s → ⊥) × HasWrongValue kind s
RefusesData kind s TooLong = ⊥
RefusesData kind s NoMemory = ⊥

-- a value of these octets holds octets of its own: numbers, times and IP addresses hold none
abbrev pub HoldsOctets : AvpType → List ℕ → Type 0
HoldsOctets OctetString s = Unit {0}
HoldsOctets UTF8String s = Unit {0}
HoldsOctets DiameterIdentity s = Unit {0}
HoldsOctets DiameterURI s = Unit {0}
HoldsOctets Grouped s = Unit {0}
HoldsOctets Address s = (family s ≢ 1) × (family s ≢ 2)
HoldsOctets _ s = ⊥
