-- What the items of a dictionary text define (RFC 6733, 3.2).
use Rattle.std.specs.Prelude.{ℕ, pos, ◌+◌, ◌-◌, ◌*◌, List, [], ◌∷◌, ◌++◌, map}
use Rattle.std.specs.Prelude.{fold, unwrap_or, Option, Some, None, option_map}
use Rattle.dm_grammar.specs.declared.item.Form.{Form}
use Rattle.dm_grammar.specs.declared.item.Form.TheVariants.{Fixed, Required, Optional}
use Rattle.dm_grammar.specs.Tokens.{Word}
use Rattle.dm_grammar.specs.Items as written
use Rattle.dm_grammar.specs.Items.{Written, VendorParts, AvpParts, GroupParts, CommandParts, VendorReference, Range}
use Rattle.dm_grammar.specs.Items.VendorReference.{NumberedBy, NamedBy}
use Rattle.dm_grammar.specs.Items.Written.{VendorIs, AvpIs, GroupIs, CommandIs}
use Rattle.dm_value.specs.declared.avp_type.AvpType.{AvpType}
use Rattle.dm_value.specs.declared.avp_type.AvpType.TheVariants.{OctetString, Grouped}
use Rattle.dm_tables.specs.declared.rule.Entry.{Entry}
use Rattle.dm_tables.specs.declared.values.EnumValue.{EnumValue}
use Rattle.dm_tables.specs.declared.def.VendorDef.{VendorDef}
use Rattle.dm_tables.specs.declared.def.AvpDef.{AvpDef}
use Rattle.dm_tables.specs.declared.def.CommandDef.{CommandDef}
use Rattle.dm_tables.specs.Definitions.{Definitions, vendor_number, with_vendor, with_avp, with_command}
use Rattle.dm_dict_text.specs.Kinds.{kind_names, kind_among}

-- the number that decimal digits write behind those of n
abbrev pub number_behind : ℕ → List ℕ → ℕ
number_behind n [] = n
number_behind n (c ∷ s) = number_behind (n * 10 + (c - 48)) s

abbrev pub number_of : List ℕ → ℕ
number_of digits = number_behind 0 digits

abbrev pub number : Word → ℕ
number w = number_of w.text

-- the type of a name; Grouped is no name of a type here
abbrev pub type_named : List ℕ → Option AvpType
type_named name = kind_among kind_names name

-- the least number of an entry without a qualifier, and of one whose qualifier has none
abbrev pub plain_min : Form → ℕ
plain_min Fixed = 1
plain_min Required = 1
plain_min Optional = 0

abbrev pub starred_min : Form → ℕ
starred_min Fixed = 0
starred_min Required = 1
starred_min Optional = 0

abbrev pub low_or : Form → Option Word → ℕ
low_or form None = starred_min form
low_or form (Some w) = number w

abbrev pub min_of : Form → Option Range → ℕ
min_of form None = plain_min form
min_of form (Some q) = low_or form q.low

-- the greatest number: 1 without a qualifier, and no bound where the qualifier has none
abbrev pub max_of : Option Range → Option ℕ
max_of None = Some 1
max_of (Some q) = option_map number q.high

abbrev pub entry_of : written.EntryParts → Entry
entry_of e = record { form = e.form; name = e.name.text; min = min_of e.form e.qualifier; max = max_of e.qualifier }

abbrev pub value_of : written.ValueParts → EnumValue
value_of v = record { name = v.name.text; number = pos (number v.number) }

abbrev pub vendor_def_of : VendorParts → VendorDef
vendor_def_of p = record { name = p.name.text; number = number p.number }

-- the vendor that is written, if any; None where it is a name that no vendor has
abbrev pub vendor_of : List VendorDef → Option VendorReference → Option (Option ℕ)
vendor_of vendors None = Some None
vendor_of vendors (Some (NumberedBy w)) = Some (Some (number w))
vendor_of vendors (Some (NamedBy w)) = option_map Some (vendor_number vendors w.text)

-- an unknown type is a fault elsewhere
abbrev pub avp_def_of : AvpParts → Option ℕ → AvpDef
avp_def_of p vendor =
    record {
      name = p.name.text;
      code = number p.code;
      vendor = vendor;
      kind = unwrap_or (type_named p.kind.text) OctetString;
      rule = [];
      values = map value_of p.values;
    }

abbrev pub group_def_of : GroupParts → Option ℕ → AvpDef
group_def_of p vendor =
    record {
      name = p.name.text;
      code = number p.code;
      vendor = vendor;
      kind = Grouped;
      rule = map entry_of p.rule;
      values = [];
    }

abbrev pub command_def_of : CommandParts → CommandDef
command_def_of p =
    record {
      name = p.name.text;
      code = number p.code;
      request = p.request;
      proxiable = p.proxiable;
      err = p.error;
      application = unwrap_or (option_map number p.application) 0;
      rule = map entry_of p.rule;
    }

-- what items make: definitions, and strays, the names of AVPs whose vendor has a name that nothing before them defines
pub record WithStrays : Type 0 where
  pub definitions : Definitions
  pub strays : List (List ℕ)

-- definitions, and no strays
abbrev pub with_no_strays : Definitions → WithStrays
with_no_strays d = record { definitions = d; strays = [] }

-- an AVP behind the others, or a stray where its vendor isn't known
abbrev pub placed : WithStrays → List ℕ → (Option ℕ → AvpDef) → Option (Option ℕ) → WithStrays
placed m name def None = record m { strays = m.strays ++ name ∷ [] }
placed m name def (Some vendor) = record m { definitions = with_avp m.definitions (def vendor) }

-- the definition of an item, behind the others
abbrev pub with_item : WithStrays → Written → WithStrays
with_item m (VendorIs p) = record m { definitions = with_vendor m.definitions (vendor_def_of p) }
with_item m (AvpIs p) = placed m p.name.text (avp_def_of p) (vendor_of m.definitions.vendors p.vendor)
with_item m (GroupIs p) = placed m p.name.text (group_def_of p) (vendor_of m.definitions.vendors p.vendor)
with_item m (CommandIs p) = record m { definitions = with_command m.definitions (command_def_of p) }

-- the definitions of the items, in order
abbrev pub with_items : WithStrays → List Written → WithStrays
with_items m items = fold with_item m items

-- how many vendors an item defines
abbrev pub vendor_count : Written → ℕ
vendor_count (VendorIs p) = 1
vendor_count _ = 0
