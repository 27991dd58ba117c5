-- The value that octets of a type have, as an answer, where they have one (RFC 6733, 4.2 to 4.4).
use Rattle.std.specs.Prelude.{◌≡◌, ℕ, nat_eq, if◌then◌else◌, unwrap_or, List, [], drop}
use Rattle.std.specs.Int.{cast_signed, w32, w64}
use Rattle.byteorder.specs.Endian.{big_number}
use Rattle.dm_wire.specs.Members.{members}
use Rattle.dm_value.specs.declared.avp_type.AvpType.{AvpType}
use Rattle.dm_value.specs.declared.avp_type.AvpType.TheVariants.{OctetString, Integer32, Integer64, Unsigned32}
use Rattle.dm_value.specs.declared.avp_type.AvpType.TheVariants.{Unsigned64, Address, Time, UTF8String}
use Rattle.dm_value.specs.declared.avp_type.AvpType.TheVariants.{DiameterIdentity, DiameterURI, Enumerated, Grouped}
use Rattle.dm_value.specs.declared.value.Value.{Value}
use Rattle.dm_value.specs.declared.value.Value.TheVariants as value
use Rattle.dm_value.specs.declared.address.Address.{Address as AnAddress}
use Rattle.dm_value.specs.declared.address.Address.TheVariants as address
use Rattle.dm_value.specs.declared.address.Ip.TheVariants.{V4, V6}
use Rattle.dm_value.specs.Columns.{family}
use Rattle.dm_value.specs.Meaning.{Means}

-- the address behind the family
abbrev pub address_in : List ℕ → AnAddress
address_in s = if nat_eq (family s) 1 then address.Ip (V4 (drop 2 s)) else
    (if nat_eq (family s) 2 then address.Ip (V6 (drop 2 s)) else address.Other (family s) (drop 2 s))

-- the value behind the octets, as an answer
abbrev pub value_in : AvpType → List ℕ → Value
value_in OctetString s = value.Bytes s
value_in Integer32 s = value.Int32 (cast_signed w32 (big_number 4 s))
value_in Integer64 s = value.Int64 (cast_signed w64 (big_number 8 s))
value_in Unsigned32 s = value.Uint32 (big_number 4 s)
value_in Unsigned64 s = value.Uint64 (big_number 8 s)
value_in Address s = value.Addr (address_in s)
value_in Time s = value.Time (big_number 4 s)
value_in UTF8String s = value.Text s
value_in DiameterIdentity s = value.Identity s
value_in DiameterURI s = value.Uri s
value_in Enumerated s = value.Enumerated (cast_signed w32 (big_number 4 s))
value_in Grouped s = value.Group (unwrap_or (members s) [])

-- where octets have a value, it is this one
abbrev pub ValueMeant : Type 0
ValueMeant = (kind : AvpType) (s : List ℕ) (v : Value) → Means kind s v → value_in kind s ≡ v
