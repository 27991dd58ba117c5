-- The text of definitions (RFC 6733, 3.2): a line for each, its tokens behind single spaces; `:` and `,` follow without
-- one, and a qualifier is one word.
use Rattle.std.specs.Prelude.{ℕ, unsigned_abs, Bool, true, false, ◌&&◌, List, []}
use Rattle.std.specs.Prelude.{◌∷◌, ◌++◌, codes, Option, Some, None, if◌then◌else◌}
use Rattle.std.specs.List.{flat_map, list_all}
use Rattle.std.specs.Fmt.{decimal}
use Rattle.dm_grammar.specs.declared.item.Form.{Form}
use Rattle.dm_grammar.specs.declared.item.Form.TheVariants.{Fixed, Required, Optional}
use Rattle.dm_value.specs.declared.avp_type.AvpType.{AvpType}
use Rattle.dm_value.specs.declared.avp_type.AvpType.TheVariants.{OctetString, Integer32, Integer64, Unsigned32}
use Rattle.dm_value.specs.declared.avp_type.AvpType.TheVariants.{Unsigned64, Address, Time, UTF8String}
use Rattle.dm_value.specs.declared.avp_type.AvpType.TheVariants.{DiameterIdentity, DiameterURI, Enumerated, Grouped}
use Rattle.dm_tables.specs.declared.rule.Entry.{Entry}
use Rattle.dm_tables.specs.declared.values.EnumValue.{EnumValue}
use Rattle.dm_tables.specs.declared.def.VendorDef.{VendorDef}
use Rattle.dm_tables.specs.declared.def.AvpDef.{AvpDef}
use Rattle.dm_tables.specs.declared.def.CommandDef.{CommandDef}
use Rattle.dm_tables.specs.Definitions.{Definitions}
use Rattle.dm_tables.specs.Sound.{is_grouped}

abbrev pub type_name : AvpType → List ℕ
type_name OctetString = codes "OctetString"
type_name Integer32 = codes "Integer32"
type_name Integer64 = codes "Integer64"
type_name Unsigned32 = codes "Unsigned32"
type_name Unsigned64 = codes "Unsigned64"
type_name Address = codes "Address"
type_name Time = codes "Time"
type_name UTF8String = codes "UTF8String"
type_name DiameterIdentity = codes "DiameterIdentity"
type_name DiameterURI = codes "DiameterURI"
type_name Enumerated = codes "Enumerated"
type_name Grouped = codes "Grouped"

-- behind a space
abbrev pub spaced : List ℕ → List ℕ
spaced word = 32 ∷ word

abbrev pub spaced_number : ℕ → List ℕ
spaced_number n = spaced (decimal n)

abbrev pub spaced_option : Option ℕ → List ℕ
spaced_option None = []
spaced_option (Some n) = spaced_number n

abbrev pub decimal_option : Option ℕ → List ℕ
decimal_option None = []
decimal_option (Some n) = decimal n

abbrev pub opening_bracket : Form → List ℕ
opening_bracket Fixed = codes " < "
opening_bracket Required = codes " { "
opening_bracket Optional = codes " [ "

abbrev pub closing_bracket : Form → List ℕ
closing_bracket Fixed = codes " >"
closing_bracket Required = codes " }"
closing_bracket Optional = codes " ]"

-- MIN*MAX { NAME }, both numbers in full (3.2 lets either be left out)
abbrev pub entry_text : Entry → List ℕ
entry_text e = spaced_number e.min ++ codes "*" ++ decimal_option e.max ++ opening_bracket e.form ++ e.name
    ++ closing_bracket e.form

abbrev pub rule_text : List Entry → List ℕ
rule_text rule = flat_map entry_text rule

abbrev pub line_end : List ℕ
line_end = 10 ∷ []

-- @ vendor NAME NUMBER (own)
abbrev pub vendor_line : VendorDef → List ℕ
vendor_line v = codes "@ vendor " ++ v.name ++ spaced_number v.number ++ line_end

-- NAME NUMBER
abbrev pub listed_value_text : EnumValue → List ℕ
listed_value_text v = spaced v.name ++ spaced_number (unsigned_abs v.number)

-- , NAME NUMBER
abbrev pub next_value : EnumValue → List ℕ
next_value v = codes "," ++ listed_value_text v

-- { NAME NUMBER, NAME NUMBER }, or nothing where there is no list
abbrev pub value_list_text : List EnumValue → List ℕ
value_list_text [] = []
value_list_text (v ∷ vs) = codes " {" ++ listed_value_text v ++ flat_map next_value vs ++ codes " }"

-- TYPE VENDOR LIST, and the end of the line
abbrev pub plain_end : AvpDef → List ℕ
plain_end d = spaced (type_name d.kind) ++ spaced_option d.vendor ++ value_list_text d.values ++ line_end

-- @ NAME CODE TYPE VENDOR LIST (own: RFC 6733 has no grammar for an AVP that is no group; its definitions are prose,
-- 4.5)
abbrev pub plain_line : AvpDef → List ℕ
plain_line d = codes "@ " ++ d.name ++ spaced_number d.code ++ plain_end d

-- > RULE, and the end of the line
abbrev pub rule_end : List Entry → List ℕ
rule_end rule = codes " >" ++ rule_text rule ++ line_end

-- > ::= < AVP Header: CODE VENDOR
abbrev pub group_head_text : AvpDef → List ℕ
group_head_text d = codes " > ::= < AVP Header:" ++ spaced_number d.code ++ spaced_option d.vendor

-- < NAME, then the head and the rule
abbrev pub group_line : AvpDef → List ℕ
group_line d = codes "< " ++ d.name ++ group_head_text d ++ rule_end d.rule

abbrev pub avp_line : AvpDef → List ℕ
avp_line d = if is_grouped d.kind then group_line d else plain_line d

abbrev pub flag_text : Bool → List ℕ → List ℕ
flag_text flag text = if flag then text else []

-- the flags that hold
abbrev pub flags_text : CommandDef → List ℕ
flags_text c = flag_text c.request (codes ", REQ") ++ flag_text c.proxiable (codes ", PXY") ++
    flag_text c.err (codes ", ERR")

-- > ::= < Diameter Header: CODE, REQ, PXY, ERR APPLICATION
abbrev pub command_head_text : CommandDef → List ℕ
command_head_text c = codes " > ::= < Diameter Header:" ++ spaced_number c.code ++ flags_text c ++
    spaced_number c.application

-- < NAME, then the head and the rule
abbrev pub command_line : CommandDef → List ℕ
command_line c = codes "< " ++ c.name ++ command_head_text c ++ rule_end c.rule

abbrev pub has_nothing : {A : Type 0} → List A → Bool
has_nothing [] = true
has_nothing (x ∷ xs) = false

-- there are no vendors and no lists of values, so a text of version 1 says it all
abbrev pub is_first_version : Definitions → Bool
is_first_version d = has_nothing d.vendors && list_all (λ a. has_nothing a.values) d.avps

-- @ 2, where a text of version 1 doesn't say it all (own)
abbrev pub version_line : Definitions → List ℕ
version_line d = if is_first_version d then [] else codes "@ 2" ++ line_end

-- the vendors, then the AVPs, then the commands
abbrev pub printed : Definitions → List ℕ
printed d = version_line d ++ flat_map vendor_line d.vendors ++ flat_map avp_line d.avps ++
    flat_map command_line d.commands
