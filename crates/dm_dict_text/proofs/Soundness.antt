-- Items without fault give sound definitions.
use Rattle.std.proofs.Common.{◌≡◌, ℕ, pos, cond, codes, find, ap, Bool, true, false, ◌&&◌, ◌||◌, not, nat_lt, List, [], ◌∷◌, ◌++◌, map, fold, Option, Some, None, option_map, unwrap_or, refl, sym, subst, ◌∙◌, append_assoc, append-nil}
use Rattle.std.proofs.lemmas.Bool.{and_parts, ltb-false, le-leb}
use Rattle.std.specs.List.{list_any, list_all}
use Rattle.std.specs.Cmp.Lexicographic.{same_text}
use Rattle.dm_grammar.specs.declared.item.Form.{Form}
use Rattle.dm_grammar.specs.declared.item.Form.TheVariants.{Fixed, Required, Optional}
use Rattle.dm_grammar.specs.Tokens.{Word}
use Rattle.dm_grammar.specs.Items as written
use Rattle.dm_grammar.specs.Items.{VendorParts, CommandParts, VendorReference, Range}
use Rattle.dm_grammar.specs.Items.VendorReference.{NumberedBy, NamedBy}
use Rattle.dm_dict_text.specs.declared.fault.DictFault.{DictFault}
use Rattle.dm_dict_text.specs.declared.fault.DictFault.TheVariants.{Duplicate}
use Rattle.dm_value.specs.declared.avp_type.AvpType.{AvpType}
use Rattle.dm_value.specs.declared.avp_type.AvpType.TheVariants.{OctetString, Enumerated}
use Rattle.dm_tables.specs.declared.rule.Entry.{Entry}
use Rattle.dm_tables.specs.declared.values.EnumValue.{EnumValue}
use Rattle.dm_tables.specs.declared.def.VendorDef.{VendorDef}
use Rattle.dm_tables.specs.declared.def.AvpDef.{AvpDef}
use Rattle.dm_tables.specs.declared.def.CommandDef.{CommandDef}
use Rattle.dm_tables.specs.Forms.{form_number}
use Rattle.dm_tables.specs.Sound.{each_after, is_sound_entry, is_sound_rule, is_sound_avp, is_sound_command, is_proper_name, is_any, fits_32_bits, option_fits_32_bits, bounds, is_repeated, is_late, is_grouped, is_empty_rule, is_value, is_listable, is_sound_value, is_sound_list, is_enumerated, is_empty_list, is_sound_vendor}
use Rattle.dm_tables.specs.Listed.{has_number}
use Rattle.dm_tables.specs.Definitions.{is_vendor, has_vendor_number, is_named, is_coded, is_titled, is_headed, vendor_number}
use Rattle.dm_dict_text.specs.Meaning.{number, plain_min, starred_min, low_or, min_of, max_of, type_named, entry_of, value_of, vendor_def_of, vendor_of, WithStrays}
use Rattle.dm_dict_text.specs.Faults.{fault_if, range_faults, option_faults, low_faults, above_faults, high_faults, bound_faults, place_faults, rule_entry_faults, with_entry, rule_faults, faults_along, vendor_item_faults, is_defined, is_taken, reference_faults, listed_value_faults, with_value, value_list_faults, name_faults, code_faults, title_faults, head_faults}
use Rattle.dm_tables.specs.Limits.{number_limit, listed_limit}
use Rattle.dm_wire.specs.Codes.{max_command}
use Rattle.dm_dict_text.specs.Worded.{have_proper_names, are_worded_values, may_have_values}
use Rattle.dm_dict_text.proofs.Along.{none_left, none_right}
use Rattle.dm_tables.specs.SoundParts.{vendor_sound_parts}

no_fault : (b : Bool) (f : DictFault) → fault_if b f ≡ [] → b ≡ false
no_fault true f e = absurd cc
no_fault false f e = refl

either : (a b : Bool) → (a || b) ≡ false → (a ≡ false) × (b ≡ false)
either true b e = absurd cc
either false b e = (refl, e)

both : (a b : Bool) → a ≡ true → b ≡ true → (a && b) ≡ true
both a b e g = rw (e, g) refl

not_so : (b : Bool) → b ≡ false → not b ≡ true
not_so b e = rw e refl

within_limit : (n : ℕ) → nat_lt number_limit n ≡ false → fits_32_bits n ≡ true
within_limit n e = le-leb n number_limit (ltb-false number_limit n e)

number_fits : (w : Word) → range_faults number_limit w ≡ [] → fits_32_bits (number w) ≡ true
number_fits w e = within_limit (number w) (no_fault _ _ e)

option_fits : (o : Option Word) → option_faults number_limit o ≡ [] → option_fits_32_bits (option_map number o) ≡ true
option_fits None e = refl
option_fits (Some w) e = number_fits w e

plain_fits : (form : Form) → fits_32_bits (plain_min form) ≡ true
plain_fits Fixed = refl
plain_fits Required = refl
plain_fits Optional = refl

starred_fits : (form : Form) → fits_32_bits (starred_min form) ≡ true
starred_fits Fixed = refl
starred_fits Required = refl
starred_fits Optional = refl

low_fits : (form : Form) (low : Option Word) → option_faults number_limit low ≡ [] → fits_32_bits (low_or form low) ≡ true
low_fits form None e = starred_fits form
low_fits form (Some w) e = number_fits w e

min_fits : (form : Form) (q : Option Range) → low_faults q ≡ [] → fits_32_bits (min_of form q) ≡ true
min_fits form None e = plain_fits form
min_fits form (Some q) e = low_fits form q.low e

above_bounds : (min : ℕ) (high : Option Word) → above_faults min high ≡ [] → bounds min (option_map number high) ≡ true
above_bounds min None e = refl
above_bounds min (Some w) e =
    let (small, ordered) = either (nat_lt number_limit (number w)) (nat_lt (number w) min) (no_fault _ _ e) in
    both _ _ (within_limit (number w) small) (le-leb min (number w) (ltb-false (number w) min ordered))

plain_bounds : (form : Form) → bounds (plain_min form) (Some 1) ≡ true
plain_bounds Fixed = refl
plain_bounds Required = refl
plain_bounds Optional = refl

high_bounds : (form : Form) (q : Option Range) → high_faults (min_of form q) q ≡ []
    → bounds (min_of form q) (max_of q) ≡ true
high_bounds form None e = plain_bounds form
high_bounds form (Some q) e = above_bounds (low_or form q.low) q.high e

sound_entry : (before : List Entry) (e : written.EntryParts) → is_proper_name e.name.text ≡ true
    → rule_entry_faults before e ≡ [] → is_sound_entry before (entry_of e) ≡ true
sound_entry before e named none =
    let bounded = none_left (bound_faults e) (place_faults before e) none in
    let placed = none_right (bound_faults e) (place_faults before e) none in
    let low : fits_32_bits (min_of e.form e.qualifier) ≡ true = min_fits e.form e.qualifier (none_left _ _ bounded) in
    let high : bounds (min_of e.form e.qualifier) (max_of e.qualifier) ≡ true = high_bounds e.form e.qualifier
    (none_right (low_faults e.qualifier) _ bounded) in
    let once = no_fault (is_repeated before e.name.text) _ (none_left _ _ placed) in
    let ordered = no_fault (is_late before (form_number e.form)) _
    (none_right (fault_if (is_repeated before e.name.text) _) _ placed) in
    both _ _ (both _ _ (both _ _ (both _ _ named low) high) (not_so _ once)) (not_so _ ordered)

entries_sound : (before : List Entry) (es : List written.EntryParts) → list_all (λ e. is_proper_name e.name.text) es ≡ true
    → faults_along rule_entry_faults with_entry before es ≡ []
    → each_after is_sound_entry before (map entry_of es) ≡ true
entries_sound before [] named none = refl
entries_sound before (e ∷ es) named none =
    let (first, rest) = and_parts (is_proper_name e.name.text) (list_all (λ x. is_proper_name x.name.text) es) named in
    both _ _ (sound_entry before e first (none_left (rule_entry_faults before e) _ none))
    (entries_sound (with_entry before e) es rest (none_right (rule_entry_faults before e) _ none))

fold-with_entry : (before : List Entry) (es : List written.EntryParts)
    → fold with_entry before es ≡ before ++ map entry_of es
fold-with_entry before [] = sym (append-nil before)
fold-with_entry before (e ∷ es) =
    fold-with_entry (with_entry before e) es ∙ append_assoc before (entry_of e ∷ []) (map entry_of es)

pub sound_rule : (es : List written.EntryParts) (rule : List Entry) → rule ≡ fold with_entry [] es → have_proper_names es ≡ true
    → rule_faults es ≡ [] → is_sound_rule rule ≡ true
sound_rule es rule e named none =
    subst (λ (r : List Entry). is_sound_rule r ≡ true) (sym (e ∙ fold-with_entry [] es))
    (entries_sound [] es named none)

pub rule_is : (es : List written.EntryParts) (rule : List Entry) → rule ≡ fold with_entry [] es → rule ≡ map entry_of es
rule_is es rule e = e ∙ fold-with_entry [] es

sound_record : (before : List AvpDef) (name code : Word) (vendor : Option ℕ) (a : AvpDef)
    → is_proper_name name.text ≡ true → is_any name.text ≡ false → list_any (is_named name.text) before ≡ false
    → fits_32_bits (number code) ≡ true → option_fits_32_bits vendor ≡ true → list_any (is_coded (number code) vendor) before ≡ false
    → is_sound_rule a.rule ≡ true → (is_grouped a.kind || is_empty_rule a.rule) ≡ true
    → is_sound_list a.values ≡ true → (is_enumerated a.kind || is_empty_list a.values) ≡ true
    → is_sound_avp before (record a { name = name.text; code = number code; vendor = vendor }) ≡ true
sound_record before name code vendor a named not_any new code_fits vendor_fits new_code ruled kinds listed listing =
    both _ _ (both _ _
    (both _ _
    (both _ _
    (both _ _
    (both _ _ (both _ _ (both _ _ (both _ _ named (not_so _ not_any)) (not_so _ new)) code_fits) vendor_fits)
    (not_so _ new_code)) ruled) kinds) listed) listing

-- the vendor of a name has a number of 32 bits
found_fits : (name : List ℕ) (before vendors : List VendorDef) (n : ℕ)
    → each_after is_sound_vendor before vendors ≡ true → vendor_number vendors name ≡ Some n → fits_32_bits n ≡ true
found_fits name before [] n h e = absurd cc
found_fits name before (v ∷ vs) n h e =
    let (first, rest) = and_parts (is_sound_vendor before v) (each_after is_sound_vendor (before ++ v ∷ []) vs) h in
    by (is_vendor name v) e (vendor_sound_parts before v first).number (λ g. found_fits name (before ++ v ∷ []) vs n rest g)
  where
    by : (b : Bool) → option_map (λ x. x.number) (cond b (Some v) (find (is_vendor name) vs)) ≡ Some n
        → fits_32_bits v.number ≡ true → (vendor_number vs name ≡ Some n → fits_32_bits n ≡ true) → fits_32_bits n ≡ true
    by true g f later = let same : v.number ≡ n = cc in subst (λ (x : ℕ). fits_32_bits x ≡ true) same f
    by false g f later = later g

some_is : {A : Type 0} (o : Option A) (v : Option A) → option_map Some o ≡ Some v → o ≡ v
some_is None v e = absurd cc
some_is (Some x) v e = cc

vendor_fits : (vendors : List VendorDef) (vend : Option VendorReference) (vendor : Option ℕ)
    → each_after is_sound_vendor [] vendors ≡ true → reference_faults vend ≡ [] → vendor_of vendors vend ≡ Some vendor
    → option_fits_32_bits vendor ≡ true
vendor_fits vendors None vendor h none e =
    let same : None ≡ vendor = cc in subst (λ (o : Option ℕ). option_fits_32_bits o ≡ true) same refl
vendor_fits vendors (Some (NumberedBy w)) vendor h none e =
    let same : Some (number w) ≡ vendor = cc in
    subst (λ (o : Option ℕ). option_fits_32_bits o ≡ true) same (number_fits w none)
vendor_fits vendors (Some (NamedBy w)) vendor h none e =
    by vendor (some_is (vendor_number vendors w.text) vendor e)
  where
    by : (o : Option ℕ) → vendor_number vendors w.text ≡ o → option_fits_32_bits o ≡ true
    by None g = refl
    by (Some n) g = found_fits w.text [] vendors n h g

-- an AVP of these words, whose vendor is known
pub sound_avp : (m : WithStrays) (a : AvpDef) (name code : Word) (vend : Option VendorReference) (vendor : Option ℕ)
    → each_after is_sound_vendor [] m.definitions.vendors ≡ true → a.name ≡ name.text
    → a.code ≡ number code → a.vendor ≡ vendor → vendor_of m.definitions.vendors vend ≡ Some vendor
    → is_proper_name name.text ≡ true → name_faults m name ≡ [] → code_faults m.definitions code vend ≡ []
    → is_sound_rule a.rule ≡ true → (is_grouped a.kind || is_empty_rule a.rule) ≡ true
    → is_sound_list a.values ≡ true → (is_enumerated a.kind || is_empty_list a.values) ≡ true
    → is_sound_avp m.definitions.avps a ≡ true
sound_avp m a name code vend vendor sound en ec ev known named names numbers ruled kinds listed listing =
    let avps = m.definitions.avps in
    let (not_any, new) = either (is_any name.text) (is_defined m name.text) (no_fault _ _ names) in
    let (new_name, no_stray) = either (list_any (is_named name.text) avps) _ new in
    let taken = fault_if (is_taken avps (number code) (vendor_of m.definitions.vendors vend)) (Duplicate code.line) in
    let front = none_left (range_faults number_limit code ++ taken) (reference_faults vend) numbers in
    let code_fits = number_fits code (none_left (range_faults number_limit code) taken front) in
    let free = no_fault (is_taken avps (number code) (vendor_of m.definitions.vendors vend)) _
    (none_right (range_faults number_limit code) taken front) in
    let new_code : list_any (is_coded (number code) vendor) avps ≡ false = subst
    (λ (o : Option (Option ℕ)). is_taken avps (number code) o ≡ false) known free in
    let fit = vendor_fits m.definitions.vendors vend vendor sound
    (none_right (range_faults number_limit code ++ taken) (reference_faults vend) numbers) known in
    let same : a ≡ record a { name = name.text; code = number code; vendor = vendor } =
    λ i. record a { name = en i; code = ec i; vendor = ev i } in
    subst (λ (x : AvpDef). is_sound_avp avps x ≡ true) (sym same)
    (sound_record avps name code vendor a named not_any new_name code_fits fit new_code ruled kinds listed listing)

-- a vendor of these words
pub sound_vendor : (before : List VendorDef) (v : VendorDef) (p : VendorParts) → v.name ≡ p.name.text
    → v.number ≡ number p.number → is_proper_name p.name.text ≡ true → vendor_item_faults before p ≡ []
    → is_sound_vendor before v ≡ true
sound_vendor before v p en eu named none =
    let twice = fault_if (list_any (is_vendor p.name.text) before) (Duplicate p.name.line) in
    let taken = fault_if (list_any (has_vendor_number (number p.number)) before) (Duplicate p.number.line) in
    let front = none_left (twice ++ range_faults number_limit p.number) taken none in
    let new = no_fault (list_any (is_vendor p.name.text) before) _
    (none_left twice (range_faults number_limit p.number) front) in
    let small = number_fits p.number (none_right twice (range_faults number_limit p.number) front) in
    let free = no_fault (list_any (has_vendor_number (number p.number)) before) _
    (none_right (twice ++ range_faults number_limit p.number) taken none) in
    let same : v ≡ vendor_def_of p = λ i. record { name = en i; number = eu i } in
    subst (λ (x : VendorDef). is_sound_vendor before x ≡ true) (sym same)
    (both _ _ (both _ _ (both _ _ named (not_so _ new)) small) (not_so _ free))

sound_value : (before : List EnumValue) (v : written.ValueParts) → is_proper_name v.name.text ≡ true
    → listed_value_faults before v ≡ [] → is_sound_value before (value_of v) ≡ true
sound_value before v named none =
    let twice = fault_if (list_any (is_value v.name.text) before) (Duplicate v.name.line) in
    let taken = fault_if (list_any (has_number (pos (number v.number))) before) (Duplicate v.number.line) in
    let front = none_left (twice ++ range_faults listed_limit v.number) taken none in
    let new = no_fault (list_any (is_value v.name.text) before) _
    (none_left twice (range_faults listed_limit v.number) front) in
    let below = no_fault _ _ (none_right twice (range_faults listed_limit v.number) front) in
    let small : is_listable (pos (number v.number)) ≡ true = le-leb (number v.number) listed_limit
    (ltb-false listed_limit (number v.number) below) in
    let free = no_fault (list_any (has_number (pos (number v.number))) before) _
    (none_right (twice ++ range_faults listed_limit v.number) taken none) in
    both _ _ (both _ _ (both _ _ named (not_so _ new)) small) (not_so _ free)

values_sound : (before : List EnumValue) (vs : List written.ValueParts) → are_worded_values vs ≡ true
    → faults_along listed_value_faults with_value before vs ≡ [] → each_after is_sound_value before (map value_of vs) ≡ true
values_sound before [] named none = refl
values_sound before (v ∷ vs) named none =
    let (first, rest) = and_parts (is_proper_name v.name.text) (are_worded_values vs) named in
    both _ _ (sound_value before v first (none_left (listed_value_faults before v) _ none))
    (values_sound (with_value before v) vs rest (none_right (listed_value_faults before v) _ none))

fold-with_value : (before : List EnumValue) (vs : List written.ValueParts)
    → fold with_value before vs ≡ before ++ map value_of vs
fold-with_value before [] = sym (append-nil before)
fold-with_value before (v ∷ vs) =
    fold-with_value (with_value before v) vs ∙ append_assoc before (value_of v ∷ []) (map value_of vs)

pub list_is : (vs : List written.ValueParts) (values : List EnumValue) → values ≡ fold with_value [] vs
    → values ≡ map value_of vs
list_is vs values e = e ∙ fold-with_value [] vs

pub sound_list : (vs : List written.ValueParts) (values : List EnumValue) → values ≡ fold with_value [] vs
    → are_worded_values vs ≡ true → value_list_faults vs ≡ [] → is_sound_list values ≡ true
sound_list vs values e named none =
    subst (λ (l : List EnumValue). is_sound_list l ≡ true) (sym (list_is vs values e)) (values_sound [] vs named none)

or_true : (b : Bool) → (b || true) ≡ true
or_true true = refl
or_true false = refl

-- a list of values stands where the type is Enumerated
pub listing_kind : (name : List ℕ) (vs : List written.ValueParts) (kind : AvpType) (values : List EnumValue)
    → may_have_values name vs ≡ true → kind ≡ unwrap_or (type_named name) OctetString → values ≡ fold with_value [] vs
    → (is_enumerated kind || is_empty_list values) ≡ true
listing_kind name [] kind values h e g = rw g (or_true (is_enumerated kind))
listing_kind name (v ∷ vs) kind values h e g =
    let called : name ≡ codes "Enumerated" = same_text name (codes "Enumerated") (sym h) in
    let enumerated : kind ≡ Enumerated = e ∙ ap (λ n. unwrap_or (type_named n) OctetString) called in
    rw enumerated refl

pub empty_listing : (kind : AvpType) (values : List EnumValue) → values ≡ []
    → (is_enumerated kind || is_empty_list values) ≡ true
empty_listing kind values e = rw e (or_true (is_enumerated kind))

pub empty_list : (values : List EnumValue) → values ≡ [] → is_sound_list values ≡ true
empty_list values e = rw e refl

-- a rule is empty where it has no entries
pub empty_kind : (kind : AvpType) (rule : List Entry) → rule ≡ [] → (is_grouped kind || is_empty_rule rule) ≡ true
empty_kind kind rule e = rw e (or_true (is_grouped kind))

pub empty_rule : (rule : List Entry) → rule ≡ [] → is_sound_rule rule ≡ true
empty_rule rule e = rw e refl

default_fits : (o : Option Word) → option_faults number_limit o ≡ [] → fits_32_bits (unwrap_or (option_map number o) 0) ≡ true
default_fits None e = refl
default_fits (Some w) e = number_fits w e

-- a command of these parts
pub sound_command : (before : List CommandDef) (c : CommandDef) (p : CommandParts) → c.name ≡ p.name.text
    → c.code ≡ number p.code → c.request ≡ p.request → c.err ≡ p.error
    → c.application ≡ unwrap_or (option_map number p.application) 0
    → is_proper_name p.name.text ≡ true → title_faults before p.name ≡ [] → head_faults before p ≡ []
    → is_sound_rule c.rule ≡ true
    → is_sound_command before c ≡ true
sound_command before c p en ec er ee ea named titles heads ruled =
    let new = no_fault (list_any (is_titled p.name.text) before) _ titles in
    let front = none_left
    (range_faults max_command p.code ++ fault_if (list_any (is_headed (number p.code) p.request p.error) before)
    (Duplicate p.code.line)) (option_faults number_limit p.application) heads in
    let small = no_fault _ _ (none_left (range_faults max_command p.code) _ front) in
    let new_head = no_fault (list_any (is_headed (number p.code) p.request p.error) before) _
    (none_right (range_faults max_command p.code) _ front) in
    let application_fits = default_fits p.application
    (none_right
    (range_faults max_command p.code ++ fault_if (list_any (is_headed (number p.code) p.request p.error) before)
    (Duplicate p.code.line)) _ heads) in
    let same : c ≡
    record {
      name = p.name.text;
      code = number p.code;
      request = p.request;
      proxiable = c.proxiable;
      err = p.error;
      application = unwrap_or (option_map number p.application) 0;
      rule = c.rule;
    } =
    λ i. record {
      name = en i;
      code = ec i;
      request = er i;
      proxiable = c.proxiable;
      err = ee i;
      application = ea i;
      rule = c.rule;
    } in
    subst (λ (x : CommandDef). is_sound_command before x ≡ true) (sym same)
    (both _ _
    (both _ _
    (both _ _
    (both _ _ (both _ _ named (not_so _ new))
    (le-leb (number p.code) max_command (ltb-false max_command (number p.code) small))) (not_so _ new_head))
    application_fits) ruled)
