-- The faults of the items of a dictionary text, in order (RFC 6733, 3.2): token by token, and those of one token in the
-- order Range, Duplicate, Order; then the names that nothing defines.
use Rattle.std.specs.Prelude.{ℕ, pos, false, nat_eq, ◌≡◌, ◌⊎◌, Bool, ◌||◌, not, nat_lt}
use Rattle.std.specs.Prelude.{is_some, List, [], ◌∷◌, ◌++◌, Option, Some, None, if◌then◌else◌}
use Rattle.std.specs.List.{list_any, flat_map}
use Rattle.std.specs.Cmp.Lexicographic.{pointwise}
use Rattle.dm_wire.specs.Codes.{max_command}
use Rattle.dm_grammar.specs.Tokens.{Word}
use Rattle.dm_grammar.specs.Items as written
use Rattle.dm_grammar.specs.Items.{Written, VendorParts, AvpParts, GroupParts, CommandParts, VendorReference, Range}
use Rattle.dm_grammar.specs.Items.VendorReference.{NumberedBy, NamedBy}
use Rattle.dm_grammar.specs.Items.Written.{VendorIs, AvpIs, GroupIs, CommandIs}
use Rattle.dm_dict_text.specs.declared.fault.DictFault.{DictFault}
use Rattle.dm_dict_text.specs.declared.fault.DictFault.TheVariants as is
use Rattle.dm_tables.specs.declared.rule.Entry.{Entry}
use Rattle.dm_tables.specs.declared.values.EnumValue.{EnumValue}
use Rattle.dm_tables.specs.declared.def.VendorDef.{VendorDef}
use Rattle.dm_tables.specs.declared.def.AvpDef.{AvpDef}
use Rattle.dm_tables.specs.declared.def.CommandDef.{CommandDef}
use Rattle.dm_tables.specs.Forms.{form_number}
use Rattle.dm_tables.specs.Limits.{number_limit, listed_limit}
use Rattle.dm_tables.specs.Listed.{has_number}
use Rattle.dm_tables.specs.Definitions.{Definitions, is_vendor, has_vendor_number}
use Rattle.dm_tables.specs.Definitions.{is_named, is_coded, is_titled, is_headed}
use Rattle.dm_tables.specs.Sound.{is_any, is_value, is_repeated, is_late}
use Rattle.dm_dict_text.specs.Meaning.{number, type_named, min_of, entry_of, value_of}
use Rattle.dm_dict_text.specs.Meaning.{vendor_def_of, vendor_of, WithStrays, with_item}

abbrev pub fault_if : Bool → DictFault → List DictFault
fault_if b f = if b then f ∷ [] else []

-- the first fault
abbrev pub first_dict_fault : List DictFault → Option DictFault
first_dict_fault [] = None
first_dict_fault (f ∷ fs) = Some f

-- what a reader answers that meets the faults: the first of them, or want of memory
abbrev pub StopsAtFirst : List DictFault → DictFault → Type 0
StopsAtFirst faults f = (f ≡ is.NoMemory) ⊎ (first_dict_fault faults ≡ Some f)

-- the faults along a list, each member beside what those before it made
abbrev pub faults_along : {S W : Type 0} → (S → W → List DictFault) → (S → W → S) → S → List W → List DictFault
faults_along faults next s [] = []
faults_along faults next s (w ∷ ws) = faults s w ++ faults_along faults next (next s w) ws

-- a number above its limit
abbrev pub range_faults : ℕ → Word → List DictFault
range_faults limit w = fault_if (nat_lt limit (number w)) (is.Range w.line)

abbrev pub option_faults : ℕ → Option Word → List DictFault
option_faults limit None = []
option_faults limit (Some w) = range_faults limit w

-- a least number above its limit
abbrev pub low_faults : Option Range → List DictFault
low_faults None = []
low_faults (Some q) = option_faults number_limit q.low

-- a greatest number above its limit, or below the least
abbrev pub above_faults : ℕ → Option Word → List DictFault
above_faults min None = []
above_faults min (Some w) = fault_if (nat_lt number_limit (number w) || nat_lt (number w) min) (is.Range w.line)

abbrev pub high_faults : ℕ → Option Range → List DictFault
high_faults min None = []
high_faults min (Some q) = above_faults min q.high

-- The numbers of an entry. RFC 6733 (3.2) also wants a least number of 1 or more of a required entry, and 0 of an
-- optional one; a text that breaks that is taken (own): what it says can be counted as well.
abbrev pub bound_faults : written.EntryParts → List DictFault
bound_faults e = low_faults e.qualifier ++ high_faults (min_of e.form e.qualifier) e.qualifier

-- one name twice in a rule, and a form that stands too late
abbrev pub place_faults : List Entry → written.EntryParts → List DictFault
place_faults before e = fault_if (is_repeated before e.name.text) (is.Duplicate e.name.line) ++
    fault_if (is_late before (form_number e.form)) (is.Order e.name.line)

abbrev pub rule_entry_faults : List Entry → written.EntryParts → List DictFault
rule_entry_faults before e = bound_faults e ++ place_faults before e

abbrev pub with_entry : List Entry → written.EntryParts → List Entry
with_entry before e = before ++ entry_of e ∷ []

abbrev pub rule_faults : List written.EntryParts → List DictFault
rule_faults rule = faults_along rule_entry_faults with_entry [] rule

-- a vendor name or a vendor number that is there already
abbrev pub vendor_item_faults : List VendorDef → VendorParts → List DictFault
vendor_item_faults vendors p =
    fault_if (list_any (is_vendor p.name.text) vendors) (is.Duplicate p.name.line) ++ range_faults number_limit p.number
    ++ fault_if (list_any (has_vendor_number (number p.number)) vendors) (is.Duplicate p.number.line)

-- an AVP has the name, a stray too
abbrev pub is_defined : WithStrays → List ℕ → Bool
is_defined m name = list_any (is_named name) m.definitions.avps || list_any (pointwise nat_eq name) m.strays

-- an AVP called AVP, or by a name that is there already
abbrev pub name_faults : WithStrays → Word → List DictFault
name_faults m w = fault_if (is_any w.text || is_defined m w.text) (is.Duplicate w.line)

-- a number of a vendor above its limit
abbrev pub reference_faults : Option VendorReference → List DictFault
reference_faults (Some (NumberedBy w)) = range_faults number_limit w
reference_faults _ = []

-- a code and vendor that are there already; a code isn't compared where the vendor isn't known
abbrev pub is_taken : List AvpDef → ℕ → Option (Option ℕ) → Bool
is_taken avps code None = false
is_taken avps code (Some vendor) = list_any (is_coded code vendor) avps

abbrev pub code_faults : Definitions → Word → Option VendorReference → List DictFault
code_faults d code vend =
    range_faults number_limit code ++ fault_if (is_taken d.avps (number code) (vendor_of d.vendors vend))
    (is.Duplicate code.line) ++ reference_faults vend

-- a name or a number twice in a list
abbrev pub listed_value_faults : List EnumValue → written.ValueParts → List DictFault
listed_value_faults before v =
    fault_if (list_any (is_value v.name.text) before) (is.Duplicate v.name.line) ++ range_faults listed_limit v.number
    ++ fault_if (list_any (has_number (pos (number v.number))) before) (is.Duplicate v.number.line)

abbrev pub with_value : List EnumValue → written.ValueParts → List EnumValue
with_value before v = before ++ value_of v ∷ []

abbrev pub value_list_faults : List written.ValueParts → List DictFault
value_list_faults values = faults_along listed_value_faults with_value [] values

abbrev pub avp_item_faults : WithStrays → AvpParts → List DictFault
avp_item_faults m p = name_faults m p.name ++ code_faults m.definitions p.code p.vendor ++ value_list_faults p.values

abbrev pub group_item_faults : WithStrays → GroupParts → List DictFault
group_item_faults m p = name_faults m p.name ++ code_faults m.definitions p.code p.vendor ++ rule_faults p.rule

-- a command whose name, or whose code with REQ and ERR, is there already
abbrev pub title_faults : List CommandDef → Word → List DictFault
title_faults commands w = fault_if (list_any (is_titled w.text) commands) (is.Duplicate w.line)

abbrev pub head_faults : List CommandDef → CommandParts → List DictFault
head_faults commands p =
    range_faults max_command p.code ++ fault_if (list_any (is_headed (number p.code) p.request p.error) commands)
    (is.Duplicate p.code.line) ++ option_faults number_limit p.application

abbrev pub command_item_faults : List CommandDef → CommandParts → List DictFault
command_item_faults commands p = title_faults commands p.name ++ head_faults commands p ++ rule_faults p.rule

abbrev pub item_faults : WithStrays → Written → List DictFault
item_faults m (VendorIs p) = vendor_item_faults m.definitions.vendors p
item_faults m (AvpIs p) = avp_item_faults m p
item_faults m (GroupIs p) = group_item_faults m p
item_faults m (CommandIs p) = command_item_faults m.definitions.commands p

-- each item beside the definitions before it
abbrev pub items_faults : WithStrays → List Written → List DictFault
items_faults m items = faults_along item_faults with_item m items

-- an entry that names no AVP of all that the items make
abbrev pub entry_unknown : WithStrays → written.EntryParts → List DictFault
entry_unknown all e = fault_if (not (is_any e.name.text || is_defined all e.name.text)) (is.UnknownName e.name.line)

abbrev pub rule_unknown : WithStrays → List written.EntryParts → List DictFault
rule_unknown all rule = flat_map (entry_unknown all) rule

-- a name that none of the vendors has
abbrev pub reference_unknown : List VendorDef → Option VendorReference → List DictFault
reference_unknown vendors (Some (NamedBy w)) = fault_if (not (list_any (is_vendor w.text) vendors))
    (is.UnknownName w.line)
reference_unknown vendors _ = []

abbrev pub kind_unknown : Word → List DictFault
kind_unknown w = fault_if (not (is_some (type_named w.text))) (is.UnknownName w.line)

-- the types and entries that nothing defines, and the vendor names that nothing before the item defines
abbrev pub unknown : WithStrays → List VendorDef → Written → List DictFault
unknown all vendors (VendorIs p) = []
unknown all vendors (AvpIs p) = kind_unknown p.kind ++ reference_unknown vendors p.vendor
unknown all vendors (GroupIs p) = reference_unknown vendors p.vendor ++ rule_unknown all p.rule
unknown all vendors (CommandIs p) = rule_unknown all p.rule

-- the vendors behind an item
abbrev pub vendors_with : List VendorDef → Written → List VendorDef
vendors_with vendors (VendorIs p) = vendors ++ vendor_def_of p ∷ []
vendors_with vendors _ = vendors

-- of each item, beside the vendors before it
abbrev pub items_unknown : WithStrays → List VendorDef → List Written → List DictFault
items_unknown all vendors items = faults_along (unknown all) vendors_with vendors items
