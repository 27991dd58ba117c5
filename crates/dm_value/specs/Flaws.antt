-- What is wrong with octets of a type, as an answer: the columns of `Columns`, the length first.
use Rattle.std.specs.Prelude.{ℕ, Bool, true, ◌&&◌, ◌||◌, nat_eq, nat_lt, nat_le, if◌then◌else◌}
use Rattle.std.specs.Prelude.{Option, None, Some, is_some, List, length, take, drop, codes, bytes_eq}
use Rattle.std.specs.List.{list_all}
use Rattle.std.specs.Str.{is_utf8}
use Rattle.dm_wire.specs.Members.{members}
use Rattle.dm_value.specs.declared.avp_type.AvpType.{AvpType}
use Rattle.dm_value.specs.declared.avp_type.AvpType.TheVariants.{OctetString, Integer32, Integer64, Unsigned32}
use Rattle.dm_value.specs.declared.avp_type.AvpType.TheVariants.{Unsigned64, Address, Time, UTF8String}
use Rattle.dm_value.specs.declared.avp_type.AvpType.TheVariants.{DiameterIdentity, DiameterURI, Enumerated, Grouped}
use Rattle.dm_value.specs.declared.fault.ValueFault.{ValueFault}
use Rattle.dm_value.specs.declared.fault.ValueFault.TheVariants.{WrongLength, WrongValue}
use Rattle.dm_value.specs.Columns.{family}

-- just n octets
abbrev pub sized : ℕ → List ℕ → Option ValueFault
sized n s = if nat_eq (length s) n then None else Some WrongLength

-- n octets or more that pass a test
abbrev pub tested : ℕ → Bool → List ℕ → Option ValueFault
tested n right s = if nat_lt (length s) n then Some WrongLength else (if right then None else Some WrongValue)

-- an octet that an identity or a URI may have
abbrev pub is_visible : ℕ → Bool
is_visible octet = nat_le 0x21 octet && nat_le octet 0x7e

-- at least one octet, and all of them visible
abbrev pub is_visible_text : List ℕ → Bool
is_visible_text s = nat_lt 0 (length s) && list_all is_visible s

-- the scheme, and then at least one visible octet
abbrev pub is_under : List ℕ → List ℕ → Bool
is_under scheme s = bytes_eq (take (length scheme) s) scheme && is_visible_text (drop (length scheme) s)

-- a URI of one of the two schemes
abbrev pub is_uri : List ℕ → Bool
is_uri s = is_under (codes "aaa://") s || is_under (codes "aaas://") s

-- the octets behind the family are as many as an address of the family has
abbrev pub has_its_size : List ℕ → Bool
has_its_size s =
    if nat_eq (family s) 1 then nat_eq (length s) 6 else (if nat_eq (family s) 2 then nat_eq (length s) 18 else true)

abbrev pub flaw : AvpType → List ℕ → Option ValueFault
flaw OctetString s = None
flaw Integer32 s = sized 4 s
flaw Integer64 s = sized 8 s
flaw Unsigned32 s = sized 4 s
flaw Unsigned64 s = sized 8 s
flaw Address s = tested 2 (has_its_size s) s
flaw Time s = sized 4 s
flaw UTF8String s = tested 0 (is_utf8 s) s
flaw DiameterIdentity s = tested 1 (list_all is_visible s) s
flaw DiameterURI s = tested 7 (is_uri s) s
flaw Enumerated s = sized 4 s
flaw Grouped s = if is_some (members s) then None else Some WrongLength
