-- The tokens of each printed line.
use Rattle.std.proofs.Common.{◌≡◌, ◌≤◌, ℕ, ℤ, pos, negsuc, unsigned_abs, ◌+◌, Bool, true, false, ◌&&◌, not, nat_le, List, [], ◌∷◌, ◌++◌, codes, Option, Some, None, if◌then◌else◌, refl, ap, ◌∙◌, arith}
use Rattle.std.proofs.lemmas.Bool.{and_parts, leb-true}
use Rattle.std.specs.Char.{is_ascii_alphanumeric, is_ascii_digit}
use Rattle.std.specs.Fmt.{decimal}
use Rattle.std.specs.List.{list_all}
use Rattle.dm_grammar.specs.declared.item.Form.{Form}
use Rattle.dm_grammar.specs.declared.item.Form.TheVariants.{Fixed, Required, Optional}
use Rattle.dm_grammar.specs.declared.symbol.Symbol.{Symbol}
use Rattle.dm_grammar.specs.declared.symbol.Symbol.TheVariants.{Less, Greater, OpenBrace, CloseBrace, OpenSquare, CloseSquare, Star, Comma, Colon, At, Define, Diameter, Header, Avp, Req, Pxy, Err}
use Rattle.dm_grammar.specs.Symbols.{goes_on}
use Rattle.dm_grammar.specs.Tokens.{Word, tokens_from}
use Rattle.dm_value.specs.declared.avp_type.AvpType.{AvpType}
use Rattle.dm_value.specs.declared.avp_type.AvpType.TheVariants.{OctetString, Integer32, Integer64, Unsigned32, Unsigned64, Address, Time, UTF8String, DiameterIdentity, DiameterURI, Enumerated, Grouped}
use Rattle.dm_tables.specs.declared.rule.Entry.{Entry}
use Rattle.dm_tables.specs.declared.values.EnumValue.{EnumValue}
use Rattle.dm_tables.specs.declared.def.VendorDef.{VendorDef}
use Rattle.dm_tables.specs.declared.def.AvpDef.{AvpDef}
use Rattle.dm_tables.specs.declared.def.CommandDef.{CommandDef}
use Rattle.dm_tables.specs.Sound.{is_proper_name, fits_32_bits, option_fits_32_bits, bounds, is_grouped, each_after, is_sound_entry, is_sound_rule, is_sound_avp, is_sound_command, is_listable, is_sound_value, is_sound_list, is_sound_vendor}
use Rattle.dm_dict_text.specs.Printed.{type_name}
use Rattle.dm_tables.specs.SoundParts.{avp_sound_parts, command_sound_parts, value_sound_parts, vendor_sound_parts}
use Rattle.dm_dict_text.proofs.PrintText.{number_then, option_then, value_then, more_then, list_then, vendor_then, vendors_then, version_then, bound_then, bracket_then, entry_then, rule_then, end_then, title_then, plain_then, group_then, avp_then, flag_then, flags_then, command_then, avps_then, commands_then}
use Rattle.dm_dict_text.proofs.PrintWords.{word, word_of, number_word, is_wordish, breaks, word_tokens, number_tokens}

-- the words of each piece, before those that follow
abbrev pub option_words : ℕ → Option ℕ → List Word → List Word
option_words line None ws = ws
option_words line (Some n) ws = number_word line n ∷ ws

abbrev pub bracket_words : ℕ → Form → List ℕ → List Word → List Word
bracket_words line Fixed name ws = word Less (60 ∷ []) line ∷ word_of line name ∷ word Greater (62 ∷ []) line ∷ ws
bracket_words line Required name ws =
    word OpenBrace (123 ∷ []) line ∷ word_of line name ∷ word CloseBrace (125 ∷ []) line ∷ ws
bracket_words line Optional name ws =
    word OpenSquare (91 ∷ []) line ∷ word_of line name ∷ word CloseSquare (93 ∷ []) line ∷ ws

abbrev pub entry_words : ℕ → Entry → List Word → List Word
entry_words line e ws =
    number_word line e.min ∷ word Star (42 ∷ []) line ∷ option_words line e.max (bracket_words line e.form e.name ws)

abbrev pub rule_words : ℕ → List Entry → List Word → List Word
rule_words line [] ws = ws
rule_words line (e ∷ es) ws = entry_words line e (rule_words line es ws)

abbrev pub end_words : ℕ → List Entry → List Word → List Word
end_words line rule ws = word Greater (62 ∷ []) line ∷ rule_words line rule ws

abbrev pub title_words : ℕ → List ℕ → List Word → List Word
title_words line name ws = word Less (60 ∷ []) line ∷ word_of line name ∷ word Greater (62 ∷ []) line ∷ word Define
    (codes "::=") line ∷ word Less (60 ∷ []) line ∷ ws

abbrev pub value_words : ℕ → EnumValue → List Word → List Word
value_words line v ws = word_of line v.name ∷ number_word line (unsigned_abs v.number) ∷ ws

abbrev pub more_words : ℕ → List EnumValue → List Word → List Word
more_words line [] ws = ws
more_words line (v ∷ vs) ws = word Comma (44 ∷ []) line ∷ value_words line v (more_words line vs ws)

abbrev pub list_words : ℕ → List EnumValue → List Word → List Word
list_words line [] ws = ws
list_words line (v ∷ vs) ws =
    word OpenBrace (123 ∷ []) line ∷ value_words line v (more_words line vs (word CloseBrace (125 ∷ []) line ∷ ws))

abbrev pub vendor_words : ℕ → VendorDef → List Word → List Word
vendor_words line v ws =
    word At (64 ∷ []) line ∷ word_of line (codes "vendor") ∷ word_of line v.name ∷ number_word line v.number ∷ ws

abbrev pub vendors_words : ℕ → List VendorDef → (ℕ → List Word) → List Word
vendors_words line [] ws = ws line
vendors_words line (v ∷ vendors) ws = vendor_words line v (vendors_words (line + 1) vendors ws)

-- the words from line 1, behind the version
abbrev pub version_words : Bool → (ℕ → List Word) → List Word
version_words first ws = if first then ws 1 else word At (64 ∷ []) 1 ∷ word_of 1 (codes "2") ∷ ws 2

abbrev pub plain_words : ℕ → AvpDef → List Word → List Word
plain_words line a ws =
    word At (64 ∷ []) line ∷ word_of line a.name ∷ number_word line a.code ∷ word_of line
    (type_name a.kind) ∷ option_words line a.vendor (list_words line a.values ws)

abbrev pub group_words : ℕ → AvpDef → List Word → List Word
group_words line a ws =
    title_words line a.name
    (word Avp (codes "AVP") line ∷ word Header (codes "Header") line ∷ word Colon (58 ∷ []) line ∷ number_word line
    a.code ∷ option_words line a.vendor (end_words line a.rule ws))

abbrev pub avp_words : ℕ → AvpDef → List Word → List Word
avp_words line a ws = if is_grouped a.kind then group_words line a ws else plain_words line a ws

abbrev pub flag_words : ℕ → Bool → Symbol → List ℕ → List Word → List Word
flag_words line flag symbol text ws = if flag then word Comma (44 ∷ []) line ∷ word symbol text line ∷ ws else ws

abbrev pub flags_words : ℕ → CommandDef → List Word → List Word
flags_words line c ws = flag_words line c.request Req (codes "REQ")
    (flag_words line c.proxiable Pxy (codes "PXY") (flag_words line c.err Err (codes "ERR") ws))

abbrev pub command_words : ℕ → CommandDef → List Word → List Word
command_words line c ws =
    title_words line c.name
    (word Diameter (codes "Diameter") line ∷ word Header (codes "Header") line ∷ word Colon (58 ∷ []) line ∷
    number_word line c.code ∷ flags_words line c (number_word line c.application ∷ end_words line c.rule ws))

abbrev pub avps_words : ℕ → List AvpDef → (ℕ → List Word) → List Word
avps_words line [] ws = ws line
avps_words line (a ∷ avps) ws = avp_words line a (avps_words (line + 1) avps ws)

abbrev pub commands_words : List CommandDef → ℕ → List Word
commands_words [] line = []
commands_words (c ∷ commands) line = command_words line c (commands_words commands (line + 1))

small : (n : ℕ) → fits_32_bits n ≡ true → n ≤ 4294967295
small n h = leb-true n 4294967295 h

-- a name is a word
name_wordish : (name : List ℕ) → is_proper_name name ≡ true → is_wordish name ≡ true
name_wordish [] h = absurd cc
name_wordish (c ∷ s) h =
    (and_parts (is_ascii_alphanumeric c && list_all goes_on s) (not (list_all is_ascii_digit (c ∷ s))) h).0

type_wordish : (kind : AvpType) → is_wordish (type_name kind) ≡ true
type_wordish OctetString = refl
type_wordish Integer32 = refl
type_wordish Integer64 = refl
type_wordish Unsigned32 = refl
type_wordish Unsigned64 = refl
type_wordish Address = refl
type_wordish Time = refl
type_wordish UTF8String = refl
type_wordish DiameterIdentity = refl
type_wordish DiameterURI = refl
type_wordish Enumerated = refl
type_wordish Grouped = refl

option_breaks : (o : Option ℕ) (s : List ℕ) → breaks s ≡ true → breaks (option_then o s) ≡ true
option_breaks None s h = h
option_breaks (Some n) s h = refl

option_tokens : (line : ℕ) (o : Option ℕ) (s : List ℕ) → option_fits_32_bits o ≡ true → breaks s ≡ true
    → tokens_from 0 line (option_then o s) ≡ option_words line o (tokens_from 0 line s)
option_tokens line None s h b = refl
option_tokens line (Some n) s h b = number_tokens line n s (small n h) b

bracket_breaks : (form : Form) (name s : List ℕ) → breaks (bracket_then form name s) ≡ true
bracket_breaks Fixed name s = refl
bracket_breaks Required name s = refl
bracket_breaks Optional name s = refl

bracket_tokens : (line : ℕ) (form : Form) (name s : List ℕ) → is_wordish name ≡ true
    → tokens_from 0 line (bracket_then form name s) ≡ bracket_words line form name (tokens_from 0 line s)
bracket_tokens line Fixed name s h =
    ap (λ ws. word Less (60 ∷ []) line ∷ ws) (word_tokens line name (32 ∷ 62 ∷ s) h refl)
bracket_tokens line Required name s h =
    ap (λ ws. word OpenBrace (123 ∷ []) line ∷ ws) (word_tokens line name (32 ∷ 125 ∷ s) h refl)
bracket_tokens line Optional name s h =
    ap (λ ws. word OpenSquare (91 ∷ []) line ∷ ws) (word_tokens line name (32 ∷ 93 ∷ s) h refl)

bound_tokens : (line min : ℕ) (max : Option ℕ) (s : List ℕ) → bounds min max ≡ true → breaks s ≡ true
    → tokens_from 0 line (bound_then max s) ≡ option_words line max (tokens_from 0 line s)
bound_tokens line min None s h b = refl
bound_tokens line min (Some n) s h b = number_tokens line n s (small n (and_parts (fits_32_bits n) (nat_le min n) h).0) b

pub record EntryParts (e : Entry) : Type 0 where
  pub name : is_proper_name e.name ≡ true
  pub min : fits_32_bits e.min ≡ true
  pub bound : bounds e.min e.max ≡ true

pub entry_parts : (before : List Entry) (e : Entry) → is_sound_entry before e ≡ true → EntryParts e
entry_parts before e h =
    let (h4, late) = and_parts _ _ h in
    let (h3, once) = and_parts _ _ h4 in
    let (h2, bound) = and_parts _ _ h3 in
    let (name, min) = and_parts _ _ h2 in
    record { name = name; min = min; bound = bound }

entry_tokens : (line : ℕ) (e : Entry) (s : List ℕ) → EntryParts e
    → tokens_from 0 line (entry_then e s) ≡ entry_words line e (tokens_from 0 line s)
entry_tokens line e s p =
    number_tokens line e.min (42 ∷ bound_then e.max (bracket_then e.form e.name s)) (small e.min p.min) refl
    ∙ ap (λ ws. number_word line e.min ∷ word Star (42 ∷ []) line ∷ ws)
    (bound_tokens line e.min e.max (bracket_then e.form e.name s) p.bound (bracket_breaks e.form e.name s)
    ∙ ap (option_words line e.max) (bracket_tokens line e.form e.name s (name_wordish e.name p.name)))

rule_tokens : (line : ℕ) (before rule : List Entry) (s : List ℕ) → each_after is_sound_entry before rule ≡ true
    → tokens_from 0 line (rule_then rule s) ≡ rule_words line rule (tokens_from 0 line s)
rule_tokens line before [] s h = refl
rule_tokens line before (e ∷ rule) s h =
    let (first, rest) = and_parts (is_sound_entry before e) (each_after is_sound_entry (before ++ e ∷ []) rule) h in
    entry_tokens line e (rule_then rule s) (entry_parts before e first) ∙ ap (entry_words line e)
    (rule_tokens line (before ++ e ∷ []) rule s rest)

end_tokens : (line : ℕ) (rule : List Entry) (s : List ℕ) → is_sound_rule rule ≡ true
    → tokens_from 0 line (end_then rule s) ≡ end_words line rule (tokens_from 0 (line + 1) s)
end_tokens line rule s h = ap (λ ws. word Greater (62 ∷ []) line ∷ ws) (rule_tokens line [] rule (10 ∷ s) h)

title_tokens : (line : ℕ) (name s : List ℕ) → is_wordish name ≡ true
    → tokens_from 0 line (title_then name s) ≡ title_words line name (tokens_from 0 line s)
title_tokens line name s h =
    ap (λ ws. word Less (60 ∷ []) line ∷ ws)
    (word_tokens line name (32 ∷ 62 ∷ 32 ∷ 58 ∷ 58 ∷ 61 ∷ 32 ∷ 60 ∷ 32 ∷ s) h refl)

listable_small : (z : ℤ) → is_listable z ≡ true → unsigned_abs z ≤ 4294967295
listable_small (pos n) h = let small : n ≤ 2147483647 = leb-true n 2147483647 h in omega arith
listable_small (negsuc n) h = absurd cc

value_tokens : (line : ℕ) (v : EnumValue) (s : List ℕ) → is_proper_name v.name ≡ true → is_listable v.number ≡ true
    → breaks s ≡ true → tokens_from 0 line (value_then v s) ≡ value_words line v (tokens_from 0 line s)
value_tokens line v s named number b =
    word_tokens line v.name (number_then (unsigned_abs v.number) s) (name_wordish v.name named) refl
    ∙ ap (λ ws. word_of line v.name ∷ ws)
    (number_tokens line (unsigned_abs v.number) s (listable_small v.number number) b)

more_breaks : (vs : List EnumValue) (s : List ℕ) → breaks s ≡ true → breaks (more_then vs s) ≡ true
more_breaks [] s b = b
more_breaks (v ∷ vs) s b = refl

more_tokens : (line : ℕ) (before vs : List EnumValue) (s : List ℕ) → each_after is_sound_value before vs ≡ true
    → breaks s ≡ true → tokens_from 0 line (more_then vs s) ≡ more_words line vs (tokens_from 0 line s)
more_tokens line before [] s h b = refl
more_tokens line before (v ∷ vs) s h b =
    let (first, rest) = and_parts (is_sound_value before v) (each_after is_sound_value (before ++ v ∷ []) vs) h in
    let p = value_sound_parts before v first in
    ap (λ ws. word Comma (44 ∷ []) line ∷ ws)
    (value_tokens line v (more_then vs s) p.name p.number (more_breaks vs s b) ∙
    ap (value_words line v) (more_tokens line (before ++ v ∷ []) vs s rest b))

list_breaks : (vs : List EnumValue) (s : List ℕ) → breaks s ≡ true → breaks (list_then vs s) ≡ true
list_breaks [] s b = b
list_breaks (v ∷ vs) s b = refl

list_tokens : (line : ℕ) (vs : List EnumValue) (s : List ℕ) → is_sound_list vs ≡ true
    → tokens_from 0 line (list_then vs s) ≡ list_words line vs (tokens_from 0 line s)
list_tokens line [] s h = refl
list_tokens line (v ∷ vs) s h =
    let (first, rest) = and_parts (is_sound_value [] v) (each_after is_sound_value (v ∷ []) vs) h in
    let p = value_sound_parts [] v first in
    ap (λ ws. word OpenBrace (123 ∷ []) line ∷ ws)
    (value_tokens line v (more_then vs (32 ∷ 125 ∷ s)) p.name p.number (more_breaks vs (32 ∷ 125 ∷ s) refl) ∙
    ap (value_words line v) (more_tokens line (v ∷ []) vs (32 ∷ 125 ∷ s) rest refl))

vendor_tokens : (line : ℕ) (v : VendorDef) (s : List ℕ) → is_wordish v.name ≡ true → fits_32_bits v.number ≡ true
    → tokens_from 0 line (vendor_then v s) ≡ vendor_words line v (tokens_from 0 (line + 1) s)
vendor_tokens line v s named number =
    ap (λ ws. word At (64 ∷ []) line ∷ ws)
    (word_tokens line (codes "vendor") (32 ∷ (v.name ++ number_then v.number (10 ∷ s))) refl refl
    ∙ ap (λ ws. word_of line (codes "vendor") ∷ ws)
    (word_tokens line v.name (number_then v.number (10 ∷ s)) named refl
    ∙ ap (λ ws. word_of line v.name ∷ ws) (number_tokens line v.number (10 ∷ s) (small v.number number) refl)))

plain_tokens : (line : ℕ) (a : AvpDef) (s : List ℕ) → is_wordish a.name ≡ true → fits_32_bits a.code ≡ true
    → option_fits_32_bits a.vendor ≡ true → is_sound_list a.values ≡ true
    → tokens_from 0 line (plain_then a s) ≡ plain_words line a (tokens_from 0 (line + 1) s)
plain_tokens line a s named code vendor listed =
    let list : List ℕ = list_then a.values (10 ∷ s) in
    ap (λ ws. word At (64 ∷ []) line ∷ ws)
    (word_tokens line a.name (number_then a.code (32 ∷ (type_name a.kind ++ option_then a.vendor list))) named refl
    ∙ ap (λ ws. word_of line a.name ∷ ws)
    (number_tokens line a.code (32 ∷ (type_name a.kind ++ option_then a.vendor list)) (small a.code code) refl
    ∙ ap (λ ws. number_word line a.code ∷ ws)
    (word_tokens line (type_name a.kind) (option_then a.vendor list) (type_wordish a.kind)
    (option_breaks a.vendor list (list_breaks a.values (10 ∷ s) refl))
    ∙ ap (λ ws. word_of line (type_name a.kind) ∷ ws)
    (option_tokens line a.vendor list vendor (list_breaks a.values (10 ∷ s) refl) ∙
    ap (option_words line a.vendor) (list_tokens line a.values (10 ∷ s) listed)))))

avp_header_tokens : (line : ℕ) (s : List ℕ)
    → tokens_from 0 line (codes "AVP Header:" ++ 32 ∷ s) ≡
    word Avp (codes "AVP") line ∷ word Header (codes "Header") line ∷ word Colon (58 ∷ []) line ∷ tokens_from 0 line
    s
avp_header_tokens line s = refl

diameter_header_tokens : (line : ℕ) (s : List ℕ)
    → tokens_from 0 line (codes "Diameter Header:" ++ 32 ∷ s) ≡
    word Diameter (codes "Diameter") line ∷ word Header (codes "Header") line ∷ word Colon (58 ∷ []) line ∷
    tokens_from 0 line s
diameter_header_tokens line s = refl

group_tokens : (line : ℕ) (a : AvpDef) (s : List ℕ) → is_wordish a.name ≡ true → fits_32_bits a.code ≡ true
    → option_fits_32_bits a.vendor ≡ true → is_sound_rule a.rule ≡ true
    → tokens_from 0 line (group_then a s) ≡ group_words line a (tokens_from 0 (line + 1) s)
group_tokens line a s named code vendor rule =
    title_tokens line a.name (codes "AVP Header:" ++ number_then a.code (option_then a.vendor (end_then a.rule s)))
    named
    ∙ ap (title_words line a.name)
    (avp_header_tokens line (decimal a.code ++ option_then a.vendor (end_then a.rule s))
    ∙ ap (λ ws. word Avp (codes "AVP") line ∷ word Header (codes "Header") line ∷ word Colon (58 ∷ []) line ∷ ws)
    (number_tokens line a.code (option_then a.vendor (end_then a.rule s)) (small a.code code)
    (option_breaks a.vendor (end_then a.rule s) refl)
    ∙ ap (λ ws. number_word line a.code ∷ ws)
    (option_tokens line a.vendor (end_then a.rule s) vendor refl ∙
    ap (option_words line a.vendor) (end_tokens line a.rule s rule))))

flag_breaks : (flag : Bool) (w : ℕ) (ws s : List ℕ) → breaks (w ∷ ws) ≡ true → breaks s ≡ true
    → breaks (flag_then flag (w ∷ ws) s) ≡ true
flag_breaks true w ws s h g = h
flag_breaks false w ws s h g = g

req_tokens : (line : ℕ) (flag : Bool) (s : List ℕ) → breaks s ≡ true
    → tokens_from 0 line (flag_then flag (codes ", REQ") s) ≡
    flag_words line flag Req (codes "REQ") (tokens_from 0 line s)
req_tokens line true s h = ap (λ ws. word Comma (44 ∷ []) line ∷ ws) (word_tokens line (codes "REQ") s refl h)
req_tokens line false s h = refl

pxy_tokens : (line : ℕ) (flag : Bool) (s : List ℕ) → breaks s ≡ true
    → tokens_from 0 line (flag_then flag (codes ", PXY") s) ≡
    flag_words line flag Pxy (codes "PXY") (tokens_from 0 line s)
pxy_tokens line true s h = ap (λ ws. word Comma (44 ∷ []) line ∷ ws) (word_tokens line (codes "PXY") s refl h)
pxy_tokens line false s h = refl

err_tokens : (line : ℕ) (flag : Bool) (s : List ℕ) → breaks s ≡ true
    → tokens_from 0 line (flag_then flag (codes ", ERR") s) ≡
    flag_words line flag Err (codes "ERR") (tokens_from 0 line s)
err_tokens line true s h = ap (λ ws. word Comma (44 ∷ []) line ∷ ws) (word_tokens line (codes "ERR") s refl h)
err_tokens line false s h = refl

flags_tokens : (line : ℕ) (c : CommandDef) (s : List ℕ) → breaks s ≡ true
    → tokens_from 0 line (flags_then c s) ≡ flags_words line c (tokens_from 0 line s)
flags_tokens line c s h =
    let err = flag_breaks c.err 44 (codes " ERR") s refl h in
    let pxy = flag_breaks c.proxiable 44 (codes " PXY") (flag_then c.err (codes ", ERR") s) refl err in
    req_tokens line c.request (flag_then c.proxiable (codes ", PXY") (flag_then c.err (codes ", ERR") s)) pxy
    ∙ ap (flag_words line c.request Req (codes "REQ"))
    (pxy_tokens line c.proxiable (flag_then c.err (codes ", ERR") s) err ∙
    ap (flag_words line c.proxiable Pxy (codes "PXY")) (err_tokens line c.err s h))

flags_break : (c : CommandDef) (s : List ℕ) → breaks s ≡ true → breaks (flags_then c s) ≡ true
flags_break c s h =
    flag_breaks c.request 44 (codes " REQ") (flag_then c.proxiable (codes ", PXY") (flag_then c.err (codes ", ERR") s))
    refl
    (flag_breaks c.proxiable 44 (codes " PXY") (flag_then c.err (codes ", ERR") s) refl
    (flag_breaks c.err 44 (codes " ERR") s refl h))

command_tokens : (line : ℕ) (c : CommandDef) (s : List ℕ) → is_wordish c.name ≡ true → c.code ≤ 4294967295
    → c.application ≤ 4294967295 → is_sound_rule c.rule ≡ true
    → tokens_from 0 line (command_then c s) ≡ command_words line c (tokens_from 0 (line + 1) s)
command_tokens line c s named code application rule =
    let behind : List ℕ = number_then c.application (end_then c.rule s) in
    title_tokens line c.name (codes "Diameter Header:" ++ number_then c.code (flags_then c behind)) named
    ∙ ap (title_words line c.name)
    (diameter_header_tokens line (decimal c.code ++ flags_then c behind)
    ∙ ap (λ ws. word Diameter (codes "Diameter") line ∷ word Header (codes "Header") line ∷ word Colon (58 ∷ []) line ∷
    ws)
    (number_tokens line c.code (flags_then c behind) code (flags_break c behind refl)
    ∙ ap (λ ws. number_word line c.code ∷ ws)
    (flags_tokens line c behind refl
    ∙ ap (flags_words line c)
    (number_tokens line c.application (end_then c.rule s) application refl ∙
    ap (λ ws. number_word line c.application ∷ ws) (end_tokens line c.rule s rule)))))

avp_tokens : (line : ℕ) (before : List AvpDef) (a : AvpDef) (s : List ℕ) → is_sound_avp before a ≡ true
    → tokens_from 0 line (avp_then a s) ≡ avp_words line a (tokens_from 0 (line + 1) s)
avp_tokens line before a s h =
    let p = avp_sound_parts before a h in
    by (is_grouped a.kind) (group_tokens line a s (name_wordish a.name p.name) p.code p.vendor p.rule)
    (plain_tokens line a s (name_wordish a.name p.name) p.code p.vendor p.list)
  where
    by : (b : Bool) → tokens_from 0 line (group_then a s) ≡ group_words line a (tokens_from 0 (line + 1) s)
        → tokens_from 0 line (plain_then a s) ≡ plain_words line a (tokens_from 0 (line + 1) s)
        → tokens_from 0 line (if b then group_then a s else plain_then a s) ≡
        (if b then group_words line a (tokens_from 0 (line + 1) s) else
        plain_words line a (tokens_from 0 (line + 1) s))
    by true e g = e
    by false e g = g

pub avps_tokens : (line : ℕ) (before avps : List AvpDef) (s : List ℕ) (ws : ℕ → List Word)
    → each_after is_sound_avp before avps ≡ true → ((n : ℕ) → tokens_from 0 n s ≡ ws n)
    → tokens_from 0 line (avps_then avps s) ≡ avps_words line avps ws
avps_tokens line before [] s ws h e = e line
avps_tokens line before (a ∷ avps) s ws h e =
    let (first, rest) = and_parts (is_sound_avp before a) (each_after is_sound_avp (before ++ a ∷ []) avps) h in
    avp_tokens line before a (avps_then avps s) first ∙ ap (avp_words line a)
    (avps_tokens (line + 1) (before ++ a ∷ []) avps s ws rest e)

pub vendors_tokens : (line : ℕ) (before vendors : List VendorDef) (s : List ℕ) (ws : ℕ → List Word)
    → each_after is_sound_vendor before vendors ≡ true → ((n : ℕ) → tokens_from 0 n s ≡ ws n)
    → tokens_from 0 line (vendors_then vendors s) ≡ vendors_words line vendors ws
vendors_tokens line before [] s ws h e = e line
vendors_tokens line before (v ∷ vendors) s ws h e =
    let (first, rest) = and_parts (is_sound_vendor before v) (each_after is_sound_vendor (before ++ v ∷ []) vendors)
    h in
    let p = vendor_sound_parts before v first in
    vendor_tokens line v (vendors_then vendors s) (name_wordish v.name p.name) p.number ∙ ap (vendor_words line v)
    (vendors_tokens (line + 1) (before ++ v ∷ []) vendors s ws rest e)

pub version_tokens : (first : Bool) (s : List ℕ) (ws : ℕ → List Word) → ((n : ℕ) → tokens_from 0 n s ≡ ws n)
    → tokens_from 0 1 (version_then first s) ≡ version_words first ws
version_tokens true s ws e = e 1
version_tokens false s ws e = ap (λ l. word At (64 ∷ []) 1 ∷ word_of 1 (codes "2") ∷ l) (e 2)

pub commands_tokens : (line : ℕ) (before commands : List CommandDef)
    → each_after is_sound_command before commands ≡ true
    → tokens_from 0 line (commands_then commands) ≡ commands_words commands line
commands_tokens line before [] h = refl
commands_tokens line before (c ∷ commands) h =
    let (first, rest) = and_parts (is_sound_command before c)
    (each_after is_sound_command (before ++ c ∷ []) commands) h in
    let p = command_sound_parts before c first in
    let code : c.code ≤ 16777215 = leb-true c.code 16777215 p.code in
    command_tokens line c (commands_then commands) (name_wordish c.name p.name) (omega arith)
    (small c.application p.application) p.rule
    ∙ ap (command_words line c) (commands_tokens (line + 1) (before ++ c ∷ []) commands rest)
