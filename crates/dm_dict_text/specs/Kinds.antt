-- The types of AVPs by name (RFC 6733, 4.2 and 4.3), as a list.
use Rattle.std.specs.Prelude.{ℕ, List, [], ◌∷◌, nat_eq, codes, Option, Some, None, if◌then◌else◌}
use Rattle.std.specs.Cmp.Lexicographic.{pointwise}
use Rattle.dm_value.specs.declared.avp_type.AvpType.{AvpType}
use Rattle.dm_value.specs.declared.avp_type.AvpType.TheVariants.{OctetString, Integer32, Integer64, Unsigned32}
use Rattle.dm_value.specs.declared.avp_type.AvpType.TheVariants.{Unsigned64, Address, Time, UTF8String}
use Rattle.dm_value.specs.declared.avp_type.AvpType.TheVariants.{DiameterIdentity, DiameterURI, Enumerated}
use Rattle.dm_dict_text.specs.declared.kind.KindRow.{KindRow}

abbrev pub kind_row : KindRow → List ℕ × AvpType
kind_row r = (r.name.now, r.kind)

abbrev pub kind_names : List (List ℕ × AvpType)
kind_names =
    (codes "OctetString", OctetString) ∷ (codes "Integer32", Integer32) ∷ (codes "Integer64", Integer64) ∷
    (codes "Unsigned32", Unsigned32)
    ∷ (codes "Unsigned64", Unsigned64) ∷ (codes "Address", Address) ∷ (codes "Time", Time) ∷
    (codes "UTF8String", UTF8String)
    ∷ (codes "DiameterIdentity", DiameterIdentity) ∷ (codes "DiameterURI", DiameterURI) ∷
    (codes "Enumerated", Enumerated) ∷ []

-- the type of the first that has the name
abbrev pub kind_among : List (List ℕ × AvpType) → List ℕ → Option AvpType
kind_among [] name = None
kind_among (r ∷ rs) name = if pointwise nat_eq name r.0 then Some r.1 else kind_among rs name
