-- The printed text piece by piece, each before what follows it.
use Rattle.std.proofs.Common.{◌≡◌, ℕ, unsigned_abs, Bool, true, false, List, [], ◌∷◌, ◌++◌, codes, Option, Some, None, if◌then◌else◌, refl, ap, ◌∙◌, append_assoc}
use Rattle.std.specs.Fmt.{decimal}
use Rattle.std.specs.List.{flat_map}
use Rattle.dm_grammar.specs.declared.item.Form.{Form}
use Rattle.dm_grammar.specs.declared.item.Form.TheVariants.{Fixed, Required, Optional}
use Rattle.dm_tables.specs.declared.rule.Entry.{Entry}
use Rattle.dm_tables.specs.declared.values.EnumValue.{EnumValue}
use Rattle.dm_tables.specs.declared.def.VendorDef.{VendorDef}
use Rattle.dm_tables.specs.declared.def.AvpDef.{AvpDef}
use Rattle.dm_tables.specs.declared.def.CommandDef.{CommandDef}
use Rattle.dm_tables.specs.Definitions.{Definitions}
use Rattle.dm_tables.specs.Sound.{is_grouped}
use Rattle.dm_dict_text.specs.Printed.{type_name, spaced, spaced_number, spaced_option, decimal_option, opening_bracket, closing_bracket, entry_text, rule_text, line_end, vendor_line, listed_value_text, next_value, value_list_text, plain_end, plain_line, rule_end, group_head_text, group_line, avp_line, flag_text, flags_text, command_head_text, command_line, is_first_version, version_line, printed}

abbrev pub number_then : ℕ → List ℕ → List ℕ
number_then n s = 32 ∷ (decimal n ++ s)

abbrev pub option_then : Option ℕ → List ℕ → List ℕ
option_then None s = s
option_then (Some n) s = number_then n s

abbrev pub bound_then : Option ℕ → List ℕ → List ℕ
bound_then None s = s
bound_then (Some n) s = decimal n ++ s

abbrev pub bracket_then : Form → List ℕ → List ℕ → List ℕ
bracket_then Fixed name s = 32 ∷ 60 ∷ 32 ∷ (name ++ 32 ∷ 62 ∷ s)
bracket_then Required name s = 32 ∷ 123 ∷ 32 ∷ (name ++ 32 ∷ 125 ∷ s)
bracket_then Optional name s = 32 ∷ 91 ∷ 32 ∷ (name ++ 32 ∷ 93 ∷ s)

abbrev pub entry_then : Entry → List ℕ → List ℕ
entry_then e s = number_then e.min (42 ∷ bound_then e.max (bracket_then e.form e.name s))

abbrev pub rule_then : List Entry → List ℕ → List ℕ
rule_then [] s = s
rule_then (e ∷ es) s = entry_then e (rule_then es s)

abbrev pub end_then : List Entry → List ℕ → List ℕ
end_then rule s = 32 ∷ 62 ∷ rule_then rule (10 ∷ s)

abbrev pub title_then : List ℕ → List ℕ → List ℕ
title_then name s = 60 ∷ 32 ∷ (name ++ 32 ∷ 62 ∷ 32 ∷ 58 ∷ 58 ∷ 61 ∷ 32 ∷ 60 ∷ 32 ∷ s)

abbrev pub value_then : EnumValue → List ℕ → List ℕ
value_then v s = 32 ∷ (v.name ++ number_then (unsigned_abs v.number) s)

abbrev pub more_then : List EnumValue → List ℕ → List ℕ
more_then [] s = s
more_then (v ∷ vs) s = 44 ∷ value_then v (more_then vs s)

abbrev pub list_then : List EnumValue → List ℕ → List ℕ
list_then [] s = s
list_then (v ∷ vs) s = 32 ∷ 123 ∷ value_then v (more_then vs (32 ∷ 125 ∷ s))

abbrev pub plain_then : AvpDef → List ℕ → List ℕ
plain_then a s =
    64 ∷ 32 ∷
    (a.name ++ number_then a.code (32 ∷ (type_name a.kind ++ option_then a.vendor (list_then a.values (10 ∷ s)))))

abbrev pub vendor_then : VendorDef → List ℕ → List ℕ
vendor_then v s = 64 ∷ 32 ∷ (codes "vendor" ++ 32 ∷ (v.name ++ number_then v.number (10 ∷ s)))

abbrev pub group_then : AvpDef → List ℕ → List ℕ
group_then a s =
    title_then a.name (codes "AVP Header:" ++ number_then a.code (option_then a.vendor (end_then a.rule s)))

abbrev pub avp_then : AvpDef → List ℕ → List ℕ
avp_then a s = if is_grouped a.kind then group_then a s else plain_then a s

abbrev pub flag_then : Bool → List ℕ → List ℕ → List ℕ
flag_then flag word s = if flag then word ++ s else s

abbrev pub flags_then : CommandDef → List ℕ → List ℕ
flags_then c s =
    flag_then c.request (codes ", REQ") (flag_then c.proxiable (codes ", PXY") (flag_then c.err (codes ", ERR") s))

abbrev pub command_then : CommandDef → List ℕ → List ℕ
command_then c s =
    title_then c.name
    (codes "Diameter Header:" ++ number_then c.code (flags_then c (number_then c.application (end_then c.rule s))))

abbrev pub avps_then : List AvpDef → List ℕ → List ℕ
avps_then [] s = s
avps_then (a ∷ avps) s = avp_then a (avps_then avps s)

abbrev pub vendors_then : List VendorDef → List ℕ → List ℕ
vendors_then [] s = s
vendors_then (v ∷ vendors) s = vendor_then v (vendors_then vendors s)

abbrev pub version_then : Bool → List ℕ → List ℕ
version_then first s = if first then s else 64 ∷ 32 ∷ 50 ∷ 10 ∷ s

abbrev pub commands_then : List CommandDef → List ℕ
commands_then [] = []
commands_then (c ∷ commands) = command_then c (commands_then commands)

option-then : (o : Option ℕ) (s : List ℕ) → spaced_option o ++ s ≡ option_then o s
option-then None s = refl
option-then (Some n) s = refl

bound-then : (o : Option ℕ) (s : List ℕ) → decimal_option o ++ s ≡ bound_then o s
bound-then None s = refl
bound-then (Some n) s = refl

bracket-then : (form : Form) (name s : List ℕ)
    → opening_bracket form ++ (name ++ (closing_bracket form ++ s)) ≡ bracket_then form name s
bracket-then Fixed name s = refl
bracket-then Required name s = refl
bracket-then Optional name s = refl

flag-then : (flag : Bool) (word s : List ℕ) → flag_text flag word ++ s ≡ flag_then flag word s
flag-then true word s = refl
flag-then false word s = refl

-- six pieces, one before the other
six : (a b c d e f s : List ℕ) → a ++ b ++ c ++ d ++ e ++ f ++ s ≡ a ++ (b ++ (c ++ (d ++ (e ++ (f ++ s)))))
six a b c d e f s = simp append_assoc

five : (a b c d e s : List ℕ) → a ++ b ++ c ++ d ++ e ++ s ≡ a ++ (b ++ (c ++ (d ++ (e ++ s))))
five a b c d e s = simp append_assoc

four : (a b c d s : List ℕ) → a ++ b ++ c ++ d ++ s ≡ a ++ (b ++ (c ++ (d ++ s)))
four a b c d s = simp append_assoc

three : (a b c s : List ℕ) → a ++ b ++ c ++ s ≡ a ++ (b ++ (c ++ s))
three a b c s = simp append_assoc

entry-then : (e : Entry) (s : List ℕ) → entry_text e ++ s ≡ entry_then e s
entry-then e s =
    six (spaced_number e.min) (codes "*") (decimal_option e.max) (opening_bracket e.form) e.name (closing_bracket e.form) s
    ∙ ap (λ t. spaced_number e.min ++ 42 ∷ (decimal_option e.max ++ t)) (bracket-then e.form e.name s)
    ∙ ap (λ t. spaced_number e.min ++ 42 ∷ t) (bound-then e.max (bracket_then e.form e.name s))

rule-then : (rule : List Entry) (s : List ℕ) → rule_text rule ++ s ≡ rule_then rule s
rule-then [] s = refl
rule-then (e ∷ rule) s =
    append_assoc (entry_text e) (rule_text rule) s ∙ ap (λ t. entry_text e ++ t) (rule-then rule s) ∙ entry-then e
    (rule_then rule s)

end-then : (rule : List Entry) (s : List ℕ) → rule_end rule ++ s ≡ end_then rule s
end-then rule s = three (codes " >") (rule_text rule) line_end s ∙ ap (λ t. 32 ∷ 62 ∷ t) (rule-then rule (10 ∷ s))

value-then : (v : EnumValue) (s : List ℕ) → listed_value_text v ++ s ≡ value_then v s
value-then v s = append_assoc (spaced v.name) (spaced_number (unsigned_abs v.number)) s

more-then : (vs : List EnumValue) (s : List ℕ) → flat_map next_value vs ++ s ≡ more_then vs s
more-then [] s = refl
more-then (v ∷ vs) s =
    append_assoc (next_value v) (flat_map next_value vs) s ∙ ap (λ t. next_value v ++ t) (more-then vs s) ∙ ap
    (λ t. 44 ∷ t) (value-then v (more_then vs s))

list-then : (vs : List EnumValue) (s : List ℕ) → value_list_text vs ++ s ≡ list_then vs s
list-then [] s = refl
list-then (v ∷ vs) s =
    four (codes " {") (listed_value_text v) (flat_map next_value vs) (codes " }") s
    ∙ ap (λ t. 32 ∷ 123 ∷ (listed_value_text v ++ t)) (more-then vs (32 ∷ 125 ∷ s))
    ∙ ap (λ t. 32 ∷ 123 ∷ t) (value-then v (more_then vs (32 ∷ 125 ∷ s)))

plain-end : (a : AvpDef) (s : List ℕ)
    → plain_end a ++ s ≡ 32 ∷ (type_name a.kind ++ option_then a.vendor (list_then a.values (10 ∷ s)))
plain-end a s =
    four (spaced (type_name a.kind)) (spaced_option a.vendor) (value_list_text a.values) line_end s
    ∙ ap (λ t. 32 ∷ (type_name a.kind ++ (spaced_option a.vendor ++ t))) (list-then a.values (10 ∷ s))
    ∙ ap (λ t. 32 ∷ (type_name a.kind ++ t)) (option-then a.vendor (list_then a.values (10 ∷ s)))

plain-then : (a : AvpDef) (s : List ℕ) → plain_line a ++ s ≡ plain_then a s
plain-then a s =
    four (codes "@ ") a.name (spaced_number a.code) (plain_end a) s ∙ ap
    (λ t. 64 ∷ 32 ∷ (a.name ++ number_then a.code t)) (plain-end a s)

vendor-then : (v : VendorDef) (s : List ℕ) → vendor_line v ++ s ≡ vendor_then v s
vendor-then v s = four (codes "@ vendor ") v.name (spaced_number v.number) line_end s

vendors-then : (vendors : List VendorDef) (s : List ℕ) → flat_map vendor_line vendors ++ s ≡ vendors_then vendors s
vendors-then [] s = refl
vendors-then (v ∷ vendors) s =
    append_assoc (vendor_line v) (flat_map vendor_line vendors) s ∙
    ap (λ t. vendor_line v ++ t) (vendors-then vendors s)
    ∙ vendor-then v (vendors_then vendors s)

version-then : (first : Bool) (s : List ℕ)
    → (if first then [] else codes "@ 2" ++ line_end) ++ s ≡ version_then first s
version-then true s = refl
version-then false s = refl

group-then : (a : AvpDef) (s : List ℕ) → group_line a ++ s ≡ group_then a s
group-then a s =
    four (codes "< ") a.name (group_head_text a) (rule_end a.rule) s
    ∙ ap (λ t. 60 ∷ 32 ∷ (a.name ++ t))
    (three (codes " > ::= < AVP Header:") (spaced_number a.code) (spaced_option a.vendor) (rule_end a.rule ++ s)
    ∙ ap (λ t. codes " > ::= < AVP Header:" ++ number_then a.code t)
    (option-then a.vendor (rule_end a.rule ++ s) ∙ ap (option_then a.vendor) (end-then a.rule s)))

by_kind : (b : Bool) (x y s : List ℕ) → (if b then x else y) ++ s ≡ (if b then x ++ s else y ++ s)
by_kind true x y s = refl
by_kind false x y s = refl

avp-then : (a : AvpDef) (s : List ℕ) → avp_line a ++ s ≡ avp_then a s
avp-then a s =
    by_kind (is_grouped a.kind) (group_line a) (plain_line a) s ∙
    (λ i. if is_grouped a.kind then group-then a s i else plain-then a s i)

flags-then : (c : CommandDef) (s : List ℕ) → flags_text c ++ s ≡ flags_then c s
flags-then c s =
    three (flag_text c.request (codes ", REQ")) (flag_text c.proxiable (codes ", PXY"))
    (flag_text c.err (codes ", ERR")) s
    ∙ flag-then c.request (codes ", REQ") _
    ∙ ap (flag_then c.request (codes ", REQ"))
    (flag-then c.proxiable (codes ", PXY") _ ∙
    ap (flag_then c.proxiable (codes ", PXY")) (flag-then c.err (codes ", ERR") s))

command-then : (c : CommandDef) (s : List ℕ) → command_line c ++ s ≡ command_then c s
command-then c s =
    four (codes "< ") c.name (command_head_text c) (rule_end c.rule) s
    ∙ ap (λ t. 60 ∷ 32 ∷ (c.name ++ t))
    (four (codes " > ::= < Diameter Header:") (spaced_number c.code) (flags_text c) (spaced_number c.application)
    (rule_end c.rule ++ s)
    ∙ ap (λ t. codes " > ::= < Diameter Header:" ++ number_then c.code t)
    (flags-then c (spaced_number c.application ++ (rule_end c.rule ++ s)) ∙
    ap (λ t. flags_then c (number_then c.application t)) (end-then c.rule s)))

avps-then : (avps : List AvpDef) (s : List ℕ) → flat_map avp_line avps ++ s ≡ avps_then avps s
avps-then [] s = refl
avps-then (a ∷ avps) s =
    append_assoc (avp_line a) (flat_map avp_line avps) s ∙ ap (λ t. avp_line a ++ t) (avps-then avps s) ∙ avp-then a
    (avps_then avps s)

commands-then : (commands : List CommandDef) → flat_map command_line commands ≡ commands_then commands
commands-then [] = refl
commands-then (c ∷ commands) =
    ap (λ t. command_line c ++ t) (commands-then commands) ∙ command-then c (commands_then commands)

pub printed-then : (d : Definitions)
    → printed d ≡
    version_then (is_first_version d) (vendors_then d.vendors (avps_then d.avps (commands_then d.commands)))
printed-then d =
    three (version_line d) (flat_map vendor_line d.vendors) (flat_map avp_line d.avps)
    (flat_map command_line d.commands)
    ∙ ap (λ t. version_line d ++ (flat_map vendor_line d.vendors ++ t))
    (ap (λ t. flat_map avp_line d.avps ++ t) (commands-then d.commands) ∙ avps-then d.avps (commands_then d.commands))
    ∙ ap (λ t. version_line d ++ t) (vendors-then d.vendors (avps_then d.avps (commands_then d.commands)))
    ∙ version-then (is_first_version d) (vendors_then d.vendors (avps_then d.avps (commands_then d.commands)))
