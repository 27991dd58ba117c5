-- What the definitions of a dictionary keep to (RFC 6733, 3.2), so that each can be written in a text and looked up.
use Rattle.std.specs.Prelude.{ℕ, ℤ, pos, negsuc, Bool, true, false, ◌&&◌, ◌||◌, not, nat_eq}
use Rattle.std.specs.Prelude.{nat_le, nat_lt, List, [], ◌∷◌, ◌++◌, codes, Option, Some, None}
use Rattle.std.specs.Char.{is_ascii_alphanumeric, is_ascii_digit}
use Rattle.std.specs.List.{list_all, list_any}
use Rattle.std.specs.Cmp.Lexicographic.{pointwise}
use Rattle.dm_wire.specs.Codes.{max_command}
use Rattle.dm_grammar.specs.Symbols.{goes_on}
use Rattle.dm_tables.specs.declared.rule.Entry.{Entry}
use Rattle.dm_tables.specs.declared.values.EnumValue.{EnumValue}
use Rattle.dm_tables.specs.declared.def.VendorDef.{VendorDef}
use Rattle.dm_tables.specs.declared.def.AvpDef.{AvpDef}
use Rattle.dm_tables.specs.declared.def.CommandDef.{CommandDef}
use Rattle.dm_value.specs.declared.avp_type.AvpType.{AvpType}
use Rattle.dm_value.specs.declared.avp_type.AvpType.TheVariants.{Enumerated, Grouped}
use Rattle.dm_tables.specs.Forms.{form_number}
use Rattle.dm_tables.specs.Limits.{number_limit, listed_limit}
use Rattle.dm_tables.specs.Listed.{has_number}
use Rattle.dm_tables.specs.Definitions.{Definitions, is_vendor, has_vendor_number}
use Rattle.dm_tables.specs.Definitions.{is_named, is_coded, is_titled, is_headed}

-- Letters, digits and hyphens, no hyphen first, and not digits alone. Wider than RFC 6733 (3.2), where a diameter-name
-- is
-- `ALPHA *(ALPHA / DIGIT / "-")`: names in use begin with a digit, as 3GPP-IMSI. Digits alone are a number.
abbrev pub is_proper_name : List ℕ → Bool
is_proper_name [] = false
is_proper_name (c ∷ s) = is_ascii_alphanumeric c && list_all goes_on s && not (list_all is_ascii_digit (c ∷ s))

-- the entry that stands for every AVP that no other entry of the rule names
abbrev pub is_any : List ℕ → Bool
is_any name = pointwise nat_eq name (codes "AVP")

-- a number of 32 bits
abbrev pub fits_32_bits : ℕ → Bool
fits_32_bits n = nat_le n number_limit

abbrev pub option_fits_32_bits : Option ℕ → Bool
option_fits_32_bits None = true
option_fits_32_bits (Some n) = fits_32_bits n

-- no bound, or one of 32 bits and not below the least number
abbrev pub bounds : ℕ → Option ℕ → Bool
bounds min None = true
bounds min (Some max) = fits_32_bits max && nat_le min max

-- the name stands among the entries already
abbrev pub is_repeated : List Entry → List ℕ → Bool
is_repeated before name = list_any (λ e. pointwise nat_eq name e.name) before

-- a required or optional entry stands before a fixed one, or an optional before a required one
abbrev pub is_late : List Entry → ℕ → Bool
is_late before form = list_any (λ e. nat_lt form (form_number e.form)) before

-- each member passes the test beside those before it
abbrev pub each_after : {D : Type 0} → (List D → D → Bool) → List D → List D → Bool
each_after test before [] = true
each_after test before (d ∷ ds) = test before d && each_after test (before ++ d ∷ []) ds

abbrev pub is_sound_entry : List Entry → Entry → Bool
is_sound_entry before e = is_proper_name e.name && fits_32_bits e.min && bounds e.min e.max &&
    not (is_repeated before e.name) && not (is_late before (form_number e.form))

abbrev pub is_sound_rule : List Entry → Bool
is_sound_rule rule = each_after is_sound_entry [] rule

abbrev pub is_grouped : AvpType → Bool
is_grouped Grouped = true
is_grouped _ = false

abbrev pub is_empty_rule : List Entry → Bool
is_empty_rule [] = true
is_empty_rule (e ∷ es) = false

-- a number that a text can write: not negative, and of 31 bits
abbrev pub is_listable : ℤ → Bool
is_listable (pos n) = nat_le n listed_limit
is_listable (negsuc n) = false

-- a value has the name
abbrev pub is_value : List ℕ → EnumValue → Bool
is_value name v = pointwise nat_eq name v.name

-- a name and a number of its own
abbrev pub is_sound_value : List EnumValue → EnumValue → Bool
is_sound_value before v = is_proper_name v.name && not (list_any (is_value v.name) before) && is_listable v.number &&
    not (list_any (has_number v.number) before)

abbrev pub is_sound_list : List EnumValue → Bool
is_sound_list values = each_after is_sound_value [] values

abbrev pub is_enumerated : AvpType → Bool
is_enumerated Enumerated = true
is_enumerated _ = false

abbrev pub is_empty_list : List EnumValue → Bool
is_empty_list [] = true
is_empty_list (v ∷ vs) = false

-- a name and a number of 32 bits of its own
abbrev pub is_sound_vendor : List VendorDef → VendorDef → Bool
is_sound_vendor before v =
    is_proper_name v.name && not (list_any (is_vendor v.name) before)
    && fits_32_bits v.number && not (list_any (has_vendor_number v.number) before)

-- a name of its own that isn't AVP, a code and vendor of its own, a rule only where Grouped, and a list of values only
-- where Enumerated
abbrev pub is_sound_avp : List AvpDef → AvpDef → Bool
is_sound_avp before d =
    is_proper_name d.name && not (is_any d.name) && not (list_any (is_named d.name) before)
    && fits_32_bits d.code && option_fits_32_bits d.vendor && not (list_any (is_coded d.code d.vendor) before)
    && is_sound_rule d.rule && (is_grouped d.kind || is_empty_rule d.rule)
    && is_sound_list d.values && (is_enumerated d.kind || is_empty_list d.values)

-- a name of its own, and a code of 24 bits of its own with REQ and ERR
abbrev pub is_sound_command : List CommandDef → CommandDef → Bool
is_sound_command before c =
    is_proper_name c.name && not (list_any (is_titled c.name) before)
    && nat_le c.code max_command && not (list_any (is_headed c.code c.request c.err) before)
    && fits_32_bits c.application && is_sound_rule c.rule

-- an entry names an AVP, or is AVP
abbrev pub is_entry_known : List AvpDef → Entry → Bool
is_entry_known avps e = is_any e.name || list_any (is_named e.name) avps

abbrev pub knows_rule : List AvpDef → List Entry → Bool
knows_rule avps rule = list_all (is_entry_known avps) rule

abbrev pub is_sound : Definitions → Bool
is_sound d = each_after is_sound_vendor [] d.vendors && each_after is_sound_avp [] d.avps &&
    each_after is_sound_command [] d.commands

abbrev pub is_closed : Definitions → Bool
is_closed d = list_all (λ a. knows_rule d.avps a.rule) d.avps && list_all (λ c. knows_rule d.avps c.rule) d.commands
