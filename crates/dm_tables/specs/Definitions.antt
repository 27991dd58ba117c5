-- The definitions of a dictionary, and which of them is asked for.
use Rattle.std.specs.Prelude.{ℕ, Bool, ◌&&◌, nat_eq, List, [], ◌∷◌, ◌++◌, find, Option, option_map}
use Rattle.std.specs.Bool.{beq}
use Rattle.std.specs.Option.{option_eq}
use Rattle.std.specs.Cmp.Lexicographic.{pointwise}
use Rattle.dm_tables.specs.declared.def.VendorDef.{VendorDef}
use Rattle.dm_tables.specs.declared.def.AvpDef.{AvpDef}
use Rattle.dm_tables.specs.declared.def.CommandDef.{CommandDef}

-- the vendors, the AVPs and the commands, each in order of definition
pub record Definitions : Type 0 where
  pub vendors : List VendorDef
  pub avps : List AvpDef
  pub commands : List CommandDef

abbrev pub nothing_defined : Definitions
nothing_defined = record { vendors = []; avps = []; commands = [] }

-- one definition more, behind the others
abbrev pub with_vendor : Definitions → VendorDef → Definitions
with_vendor d v = record d { vendors = d.vendors ++ v ∷ [] }

abbrev pub with_avp : Definitions → AvpDef → Definitions
with_avp d a = record d { avps = d.avps ++ a ∷ [] }

abbrev pub with_command : Definitions → CommandDef → Definitions
with_command d c = record d { commands = d.commands ++ c ∷ [] }

-- the vendor of a name (own)
abbrev pub is_vendor : List ℕ → VendorDef → Bool
is_vendor name v = pointwise nat_eq name v.name

-- the number of the vendor of a name
abbrev pub vendor_number : List VendorDef → List ℕ → Option ℕ
vendor_number vendors name = option_map (λ v. v.number) (find (is_vendor name) vendors)

-- the vendor of a Vendor-ID (4.1)
abbrev pub has_vendor_number : ℕ → VendorDef → Bool
has_vendor_number n v = nat_eq n v.number

-- the AVP of a name (RFC 6733, 3.2)
abbrev pub is_named : List ℕ → AvpDef → Bool
is_named name d = pointwise nat_eq name d.name

-- the AVP of a code and vendor (4.1); no vendor and vendor 0 are two
abbrev pub is_coded : ℕ → Option ℕ → AvpDef → Bool
is_coded code vendor d = nat_eq code d.code && option_eq nat_eq vendor d.vendor

-- the command of a name
abbrev pub is_titled : List ℕ → CommandDef → Bool
is_titled name c = pointwise nat_eq name c.name

-- the command of a code with the R and E bits (3)
abbrev pub is_headed : ℕ → Bool → Bool → CommandDef → Bool
is_headed code request err c = (nat_eq code c.code && beq request c.request) && beq err c.err
