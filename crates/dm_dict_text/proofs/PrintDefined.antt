-- The printed items define the same definitions, without fault.
use Rattle.std.proofs.Common.{◌≡◌, ◌≤◌, ℕ, ℤ, pos, negsuc, unsigned_abs, ◌+◌, Bool, true, false, ◌||◌, not, nat_le, List, [], ◌∷◌, ◌++◌, map, unwrap_or, Option, Some, None, option_map, if◌then◌else◌, is_some, refl, sym, ap, subst, ◌∙◌, arith, append-nil, append_assoc}
use Rattle.std.proofs.lemmas.Bool.{and_parts, leb-true, le-ltb}
use Rattle.std.specs.List.{list_any, list_all}
use Rattle.dm_grammar.specs.Items.{Written}
use Rattle.dm_value.specs.declared.avp_type.AvpType.{AvpType}
use Rattle.dm_value.specs.declared.avp_type.AvpType.TheVariants as kinds
use Rattle.dm_dict_text.specs.declared.fault.DictFault.{DictFault}
use Rattle.dm_dict_text.specs.declared.fault.DictFault.TheVariants.{UnknownName}
use Rattle.dm_tables.specs.declared.rule.Entry.{Entry}
use Rattle.dm_tables.specs.declared.values.EnumValue.{EnumValue}
use Rattle.dm_tables.specs.declared.def.VendorDef.{VendorDef}
use Rattle.dm_tables.specs.declared.def.AvpDef.{AvpDef}
use Rattle.dm_tables.specs.declared.def.CommandDef.{CommandDef}
use Rattle.dm_tables.specs.Forms.{form_number}
use Rattle.dm_tables.specs.Listed.{has_number}
use Rattle.dm_tables.specs.Definitions.{Definitions, nothing_defined, is_vendor, has_vendor_number, is_named, is_titled, is_headed}
use Rattle.dm_tables.specs.Sound.{is_any, fits_32_bits, option_fits_32_bits, bounds, is_grouped, is_empty_rule, is_repeated, is_late, each_after, is_sound_entry, is_sound_avp, is_sound_command, is_entry_known, knows_rule, is_value, is_listable, is_sound_value, is_enumerated, is_empty_list, is_sound_vendor}
use Rattle.dm_dict_text.specs.Printed.{type_name}
use Rattle.dm_dict_text.specs.Meaning.{number, type_named, entry_of, avp_def_of, group_def_of, value_of, vendor_of, with_no_strays, placed, with_item, with_items}
use Rattle.dm_dict_text.specs.Faults.{fault_if, faults_along, range_faults, option_faults, low_faults, above_faults, high_faults, bound_faults, place_faults, rule_entry_faults, with_entry, rule_faults, name_faults, code_faults, title_faults, item_faults, items_faults, is_defined, is_taken, reference_faults, listed_value_faults, with_value, entry_unknown, rule_unknown, reference_unknown, kind_unknown, unknown, vendors_with, items_unknown}
use Rattle.dm_tables.specs.Limits.{number_limit, listed_limit}
use Rattle.dm_wire.specs.Codes.{max_command}
use Rattle.dm_dict_text.proofs.Along.{none_both}
use Rattle.dm_tables.specs.SoundParts.{SoundAvp, avp_sound_parts, command_sound_parts, value_sound_parts, vendor_sound_parts}
use Rattle.dm_dict_text.proofs.PrintWords.{word_of, number_word, number_of-decimal}
use Rattle.dm_dict_text.proofs.PrintItems.{written_option, written_vend, written_value, written_list, written_vendor, written_vendors, written_all, written_entry, written_rule, written_plain, written_group, written_avp, written_command, written_avps, written_commands}

small : (n : ℕ) → fits_32_bits n ≡ true → n ≤ number_limit
small n h = leb-true n number_limit h

value : (line n : ℕ) → fits_32_bits n ≡ true → number (number_word line n) ≡ n
value line n h = number_of-decimal n (small n h)

option_value : (line : ℕ) (o : Option ℕ) → option_fits_32_bits o ≡ true → option_map number (written_option line o) ≡ o
option_value line None h = refl
option_value line (Some n) h = ap Some (value line n h)

no_range : (line n : ℕ) → fits_32_bits n ≡ true → range_faults number_limit (number_word line n) ≡ []
no_range line n h = rw (value line n h, le-ltb number_limit n (small n h)) refl

no_option_range : (line : ℕ) (o : Option ℕ) → option_fits_32_bits o ≡ true → option_faults number_limit (written_option line o) ≡ []
no_option_range line None h = refl
no_option_range line (Some n) h = no_range line n h

no_fault : (b : Bool) (f : DictFault) → b ≡ false → fault_if b f ≡ []
no_fault b f h = rw h refl

no_above : (line min : ℕ) (max : Option ℕ) → bounds min max ≡ true → above_faults min (written_option line max) ≡ []
no_above line min None h = refl
no_above line min (Some n) h =
    let (fit, ordered) = and_parts (fits_32_bits n) (nat_le min n) h in
    rw (value line n fit, le-ltb number_limit n (small n fit), le-ltb n min (leb-true min n ordered)) refl

max_value : (line min : ℕ) (max : Option ℕ) → bounds min max ≡ true → option_map number (written_option line max) ≡ max
max_value line min None h = refl
max_value line min (Some n) h = ap Some (value line n (and_parts (fits_32_bits n) (nat_le min n) h).0)

pub record EntryFacts (before : List Entry) (e : Entry) : Type 0 where
  pub min : fits_32_bits e.min ≡ true
  pub bound : bounds e.min e.max ≡ true
  pub once : is_repeated before e.name ≡ false
  pub ordered : is_late before (form_number e.form) ≡ false

is_not : (b : Bool) → not b ≡ true → b ≡ false
is_not true e = absurd cc
is_not false e = refl

entry_facts : (before : List Entry) (e : Entry) → is_sound_entry before e ≡ true → EntryFacts before e
entry_facts before e h =
    let (h4, late) = and_parts _ _ h in
    let (h3, once) = and_parts _ _ h4 in
    let (h2, bound) = and_parts _ _ h3 in
    let (name, min) = and_parts _ _ h2 in
    record { min = min; bound = bound; once = is_not _ once; ordered = is_not _ late }

same_entry : (line : ℕ) (before : List Entry) (e : Entry) → EntryFacts before e → entry_of (written_entry line e) ≡ e
same_entry line before e p =
    λ i. record
    { form = e.form; name = e.name; min = value line e.min p.min i; max = max_value line e.min e.max p.bound i }

no_entry_fault : (line : ℕ) (before : List Entry) (e : Entry) → EntryFacts before e
    → rule_entry_faults before (written_entry line e) ≡ []
no_entry_fault line before e p =
    none_both (bound_faults (written_entry line e)) (place_faults before (written_entry line e))
    (none_both (low_faults (Some (record { low = Some (number_word line e.min); high = written_option line e.max })))
    (high_faults (number (number_word line e.min))
    (Some (record { low = Some (number_word line e.min); high = written_option line e.max })))
    (no_range line e.min p.min)
    (ap (λ min. above_faults min (written_option line e.max)) (value line e.min p.min) ∙
    no_above line e.min e.max p.bound))
    (none_both _ _ (no_fault _ _ p.once) (no_fault _ _ p.ordered))

no_rule_fault : (line : ℕ) (before rule : List Entry) → each_after is_sound_entry before rule ≡ true
    → faults_along rule_entry_faults with_entry before (written_rule line rule) ≡ []
no_rule_fault line before [] h = refl
no_rule_fault line before (e ∷ rule) h =
    let (first, rest) = and_parts (is_sound_entry before e) (each_after is_sound_entry (before ++ e ∷ []) rule) h in
    let p = entry_facts before e first in
    none_both (rule_entry_faults before (written_entry line e)) _ (no_entry_fault line before e p)
    (ap (λ x. faults_along rule_entry_faults with_entry (before ++ x ∷ []) (written_rule line rule))
    (same_entry line before e p) ∙ no_rule_fault line (before ++ e ∷ []) rule rest)

same_rule : (line : ℕ) (before rule : List Entry) → each_after is_sound_entry before rule ≡ true
    → map entry_of (written_rule line rule) ≡ rule
same_rule line before [] h = refl
same_rule line before (e ∷ rule) h =
    let (first, rest) = and_parts (is_sound_entry before e) (each_after is_sound_entry (before ++ e ∷ []) rule) h in
    λ i. same_entry line before e (entry_facts before e first) i ∷ same_rule line (before ++ e ∷ []) rule rest i

neither : (a b : Bool) → a ≡ false → b ≡ false → (a || b) ≡ false
neither a b e g = rw (e, g) refl

or_none : (a b : Bool) → a ≡ false → b ≡ false → (a || (b || false)) ≡ false
or_none a b e g = rw (e, g) refl

no_name_fault : (line : ℕ) (d : Definitions) (a : AvpDef) → SoundAvp d.avps a
    → name_faults (with_no_strays d) (word_of line a.name) ≡ []
no_name_fault line d a p =
    no_fault (is_any a.name || is_defined (with_no_strays d) a.name) _
    (or_none (is_any a.name) (list_any (is_named a.name) d.avps) p.not_any p.new_name)

vend_value : (line : ℕ) (vendors : List VendorDef) (o : Option ℕ) → option_fits_32_bits o ≡ true
    → vendor_of vendors (written_vend line o) ≡ Some o
vend_value line vendors None h = refl
vend_value line vendors (Some n) h = ap (λ (x : ℕ). Some (Some x)) (value line n h)

no_vend_range : (line : ℕ) (o : Option ℕ) → option_fits_32_bits o ≡ true → reference_faults (written_vend line o) ≡ []
no_vend_range line None h = refl
no_vend_range line (Some n) h = no_range line n h

no_code_fault : (line : ℕ) (d : Definitions) (a : AvpDef) → SoundAvp d.avps a
    → code_faults d (number_word line a.code) (written_vend line a.vendor) ≡ []
no_code_fault line d a p =
    let same : is_taken d.avps (number (number_word line a.code)) (vendor_of d.vendors (written_vend line a.vendor)) ≡
    false =
    (λ i. is_taken d.avps (value line a.code p.code i) (vend_value line d.vendors a.vendor p.vendor i)) ∙ p.new_code in
    none_both _ _ (none_both _ _ (no_range line a.code p.code) (no_fault _ _ same))
    (no_vend_range line a.vendor p.vendor)

listed_small : (z : ℤ) → is_listable z ≡ true → unsigned_abs z ≤ listed_limit
listed_small (pos n) h = leb-true n listed_limit h
listed_small (negsuc n) h = absurd cc

listed_pos : (z : ℤ) → is_listable z ≡ true → pos (unsigned_abs z) ≡ z
listed_pos (pos n) h = refl
listed_pos (negsuc n) h = absurd cc

listed_value : (line : ℕ) (v : EnumValue) → is_listable v.number ≡ true
    → pos (number (number_word line (unsigned_abs v.number))) ≡ v.number
listed_value line v h =
    let small : unsigned_abs v.number ≤ listed_limit = listed_small v.number h in
    let wide : unsigned_abs v.number ≤ number_limit = omega arith in
    ap pos (number_of-decimal (unsigned_abs v.number) wide) ∙ listed_pos v.number h

same_value : (line : ℕ) (v : EnumValue) → is_listable v.number ≡ true → value_of (written_value line v) ≡ v
same_value line v h = λ i. record { name = v.name; number = listed_value line v h i }

no_value_fault : (line : ℕ) (before : List EnumValue) (v : EnumValue) → is_sound_value before v ≡ true
    → listed_value_faults before (written_value line v) ≡ []
no_value_fault line before v h =
    let p = value_sound_parts before v h in
    let small : unsigned_abs v.number ≤ listed_limit = listed_small v.number p.number in
    let wide : unsigned_abs v.number ≤ number_limit = omega arith in
    let in_range : range_faults listed_limit (number_word line (unsigned_abs v.number)) ≡ [] = rw
    (number_of-decimal (unsigned_abs v.number) wide, le-ltb listed_limit (unsigned_abs v.number) small) refl in
    let same : list_any (has_number (pos (number (number_word line (unsigned_abs v.number))))) before ≡ false =
    ap (λ z. list_any (has_number z) before) (listed_value line v p.number) ∙ p.new_number in
    none_both _ _
    (none_both _ _ (no_fault (list_any (is_value v.name) before) _ p.new_name) in_range) (no_fault _ _ same)

no_list_fault : (line : ℕ) (before vs : List EnumValue) → each_after is_sound_value before vs ≡ true
    → faults_along listed_value_faults with_value before (written_list line vs) ≡ []
no_list_fault line before [] h = refl
no_list_fault line before (v ∷ vs) h =
    let (first, rest) = and_parts (is_sound_value before v) (each_after is_sound_value (before ++ v ∷ []) vs) h in
    none_both (listed_value_faults before (written_value line v)) _ (no_value_fault line before v first)
    (ap (λ x. faults_along listed_value_faults with_value (before ++ x ∷ []) (written_list line vs))
    (same_value line v (value_sound_parts before v first).number) ∙ no_list_fault line (before ++ v ∷ []) vs rest)

same_list : (line : ℕ) (before vs : List EnumValue) → each_after is_sound_value before vs ≡ true
    → map value_of (written_list line vs) ≡ vs
same_list line before [] h = refl
same_list line before (v ∷ vs) h =
    let (first, rest) = and_parts (is_sound_value before v) (each_after is_sound_value (before ++ v ∷ []) vs) h in
    λ i. same_value line v (value_sound_parts before v first).number i ∷ same_list line (before ++ v ∷ []) vs rest i

-- a type that isn't Grouped is read from its name
kind_value : (kind : AvpType) → is_grouped kind ≡ false → type_named (type_name kind) ≡ Some kind
kind_value kinds.OctetString h = refl
kind_value kinds.Integer32 h = refl
kind_value kinds.Integer64 h = refl
kind_value kinds.Unsigned32 h = refl
kind_value kinds.Unsigned64 h = refl
kind_value kinds.Address h = refl
kind_value kinds.Time h = refl
kind_value kinds.UTF8String h = refl
kind_value kinds.DiameterIdentity h = refl
kind_value kinds.DiameterURI h = refl
kind_value kinds.Enumerated h = refl
kind_value kinds.Grouped h = absurd cc

no_rule : (kind : AvpType) (rule : List Entry) → (is_grouped kind || is_empty_rule rule) ≡ true
    → is_grouped kind ≡ false → rule ≡ []
no_rule kind [] h g = refl
no_rule kind (e ∷ rule) h g =
    let bad : (false || false) ≡ true = subst (λ (b : Bool). (b || false) ≡ true) g h in absurd cc

grouped_kind : (kind : AvpType) → is_grouped kind ≡ true → kind ≡ kinds.Grouped
grouped_kind kinds.OctetString h = absurd cc
grouped_kind kinds.Integer32 h = absurd cc
grouped_kind kinds.Integer64 h = absurd cc
grouped_kind kinds.Unsigned32 h = absurd cc
grouped_kind kinds.Unsigned64 h = absurd cc
grouped_kind kinds.Address h = absurd cc
grouped_kind kinds.Time h = absurd cc
grouped_kind kinds.UTF8String h = absurd cc
grouped_kind kinds.DiameterIdentity h = absurd cc
grouped_kind kinds.DiameterURI h = absurd cc
grouped_kind kinds.Enumerated h = absurd cc
grouped_kind kinds.Grouped h = refl

no_list : (kind : AvpType) (values : List EnumValue) → (is_enumerated kind || is_empty_list values) ≡ true
    → kind ≡ kinds.Grouped → values ≡ []
no_list kind [] h g = refl
no_list kind (v ∷ vs) h g =
    let bad : (is_enumerated kinds.Grouped || false) ≡ true = subst (λ (k : AvpType). (is_enumerated k || false) ≡ true)
    g h in
    absurd cc

same_plain : (line : ℕ) (before : List AvpDef) (a : AvpDef) → SoundAvp before a → is_grouped a.kind ≡ false
    → avp_def_of
    (record {
      name = word_of line a.name;
      code = number_word line a.code;
      kind = word_of line (type_name a.kind);
      vendor = written_vend line a.vendor;
      values = written_list line a.values;
    }) a.vendor ≡ a
same_plain line before a p g =
    let kind : unwrap_or (type_named (type_name a.kind)) kinds.OctetString ≡ a.kind = ap
    (λ o. unwrap_or o kinds.OctetString) (kind_value a.kind g) in
    let rule : a.rule ≡ [] = no_rule a.kind a.rule p.kind g in
    λ i. record {
      name = a.name;
      code = value line a.code p.code i;
      vendor = a.vendor;
      kind = kind i;
      rule = sym rule i;
      values = same_list line [] a.values p.list i;
    }

same_group : (line : ℕ) (before : List AvpDef) (a : AvpDef) → SoundAvp before a → is_grouped a.kind ≡ true
    → group_def_of
    (record {
      name = word_of line a.name;
      code = number_word line a.code;
      vendor = written_vend line a.vendor;
      rule = written_rule line a.rule;
    }) a.vendor ≡ a
same_group line before a p g =
    let none : a.values ≡ [] = no_list a.kind a.values p.listing (grouped_kind a.kind g) in
    λ i. record {
      name = a.name;
      code = value line a.code p.code i;
      vendor = a.vendor;
      kind = sym (grouped_kind a.kind g) i;
      rule = same_rule line [] a.rule p.rule i;
      values = sym none i;
    }

-- what an item adds, and that it has no fault
pub record IsAdded (d : Definitions) (i : Written) (new : Definitions) : Type 0 where
  pub faultless : item_faults (with_no_strays d) i ≡ []
  pub added : with_item (with_no_strays d) i ≡ with_no_strays new

abbrev pub with_one : Definitions → AvpDef → Definitions
with_one d a = record d { avps = d.avps ++ a ∷ [] }

avp_added : (line : ℕ) (d : Definitions) (a : AvpDef) → is_sound_avp d.avps a ≡ true
    → IsAdded d (written_avp line a) (with_one d a)
avp_added line d a h =
    let p = avp_sound_parts d.avps a h in
    let heads = none_both (name_faults (with_no_strays d) (word_of line a.name))
    (code_faults d (number_word line a.code) (written_vend line a.vendor)) (no_name_fault line d a p)
    (no_code_fault line d a p) in
    by (is_grouped a.kind) refl p heads
  where
    by : (b : Bool) → is_grouped a.kind ≡ b → SoundAvp d.avps a
        → (name_faults (with_no_strays d) (word_of line a.name) ++
        code_faults d (number_word line a.code) (written_vend line a.vendor)) ≡ []
        → IsAdded d (if b then written_group line a else written_plain line a) (with_one d a)
    by true g p heads = record {
      faultless =
          none_both
          (name_faults (with_no_strays d) (word_of line a.name) ++
          code_faults d (number_word line a.code) (written_vend line a.vendor)) _ heads
          (no_rule_fault line [] a.rule p.rule);
      added = ap
          (placed (with_no_strays d) a.name
          (group_def_of
          (record {
            name = word_of line a.name;
            code = number_word line a.code;
            vendor = written_vend line a.vendor;
            rule = written_rule line a.rule;
          }))) (vend_value line d.vendors a.vendor p.vendor) ∙
          ap (λ x. with_no_strays (with_one d x)) (same_group line d.avps a p g);
    }
    by false g p heads = record {
      faultless =
          none_both
          (name_faults (with_no_strays d) (word_of line a.name) ++
          code_faults d (number_word line a.code) (written_vend line a.vendor)) _ heads
          (no_list_fault line [] a.values p.list);
      added = ap
          (placed (with_no_strays d) a.name
          (avp_def_of
          (record {
            name = word_of line a.name;
            code = number_word line a.code;
            kind = word_of line (type_name a.kind);
            vendor = written_vend line a.vendor;
            values = written_list line a.values;
          })))
          (vend_value line d.vendors a.vendor p.vendor) ∙ ap (λ x. with_no_strays (with_one d x)) (same_plain line d.avps a p g);
    }

abbrev pub with_one_vendor : Definitions → VendorDef → Definitions
with_one_vendor d v = record d { vendors = d.vendors ++ v ∷ [] }

vendor_added : (line : ℕ) (d : Definitions) (v : VendorDef) → is_sound_vendor d.vendors v ≡ true
    → IsAdded d (written_vendor line v) (with_one_vendor d v)
vendor_added line d v h =
    let p = vendor_sound_parts d.vendors v h in
    let same : list_any (has_vendor_number (number (number_word line v.number))) d.vendors ≡ false = ap
    (λ n. list_any (has_vendor_number n) d.vendors) (value line v.number p.number) ∙ p.new_number in
    record {
      faultless =
          none_both _ _
          (none_both _ _ (no_fault (list_any (is_vendor v.name) d.vendors) _ p.new_name)
          (no_range line v.number p.number)) (no_fault _ _ same);
      added = λ i. with_no_strays (with_one_vendor d (record { name = v.name; number = value line v.number p.number i }));
    }

abbrev pub with_one_command : Definitions → CommandDef → Definitions
with_one_command d c = record d { commands = d.commands ++ c ∷ [] }

command_added : (line : ℕ) (d : Definitions) (c : CommandDef) → is_sound_command d.commands c ≡ true
    → IsAdded d (written_command line c) (with_one_command d c)
command_added line d c h =
    let p = command_sound_parts d.commands c h in
    let code_small : c.code ≤ max_command = leb-true c.code max_command p.code in
    let code : number (number_word line c.code) ≡ c.code = number_of-decimal c.code (omega arith) in
    let application = value line c.application p.application in
    let same : list_any (is_headed (number (number_word line c.code)) c.request c.err) d.commands ≡ false = ap
    (λ n. list_any (is_headed n c.request c.err) d.commands) code ∙ p.new_head in
    let in_range : range_faults max_command (number_word line c.code) ≡ [] = rw
    (code, le-ltb max_command c.code code_small) refl in
    record {
      faultless =
          none_both _ (rule_faults (written_rule line c.rule))
          (none_both (title_faults d.commands (word_of line c.name)) _
          (no_fault (list_any (is_titled c.name) d.commands) _ p.new_name)
          (none_both _ _ (none_both _ _ in_range (no_fault _ _ same)) (no_range line c.application p.application)))
          (no_rule_fault line [] c.rule p.rule);
      added = λ i. with_no_strays
          (with_one_command d
          (record {
            name = c.name;
            code = code i;
            request = c.request;
            proxiable = c.proxiable;
            err = c.err;
            application = application i;
            rule = same_rule line [] c.rule p.rule i;
          }));
    }

-- the items define the definitions behind those of d, without fault
pub record AreAdded (d : Definitions) (items : List Written) (new : Definitions) : Type 0 where
  pub faultless : items_faults (with_no_strays d) items ≡ []
  pub added : with_items (with_no_strays d) items ≡ with_no_strays new

one_more : (d mid new : Definitions) (i : Written) (items : List Written) → IsAdded d i mid → AreAdded mid items new
    → AreAdded d (i ∷ items) new
one_more d mid new i items first rest = record {
  faultless = none_both (item_faults (with_no_strays d) i) _ (first.faultless)
      (ap (λ x. items_faults x items) (first.added) ∙ rest.faultless);
  added = ap (λ x. with_items x items) (first.added) ∙ rest.added;
}

commands_added : (line : ℕ) (d : Definitions) (commands : List CommandDef)
    → each_after is_sound_command d.commands commands ≡ true
    → AreAdded d (written_commands commands line) (record d { commands = d.commands ++ commands })
commands_added line d [] h =
    record { faultless = refl; added = λ i. with_no_strays (record d { commands = sym (append-nil d.commands) i }) }
commands_added line d (c ∷ commands) h =
    let (first, rest) = and_parts (is_sound_command d.commands c)
    (each_after is_sound_command (d.commands ++ c ∷ []) commands) h in
    let behind = commands_added (line + 1) (with_one_command d c) commands rest in
    let end : record d { commands = d.commands ++ c ∷ [] ++ commands } ≡
    record d { commands = d.commands ++ c ∷ commands } = λ i. record d
    { commands = append_assoc d.commands (c ∷ []) commands i } in
    subst (λ (x : Definitions). AreAdded d (written_command line c ∷ written_commands commands (line + 1)) x) end
    (one_more d (with_one_command d c) _ (written_command line c) _ (command_added line d c first) behind)

avps_added : (line : ℕ) (d : Definitions) (avps : List AvpDef) (commands : List CommandDef)
    → each_after is_sound_avp d.avps avps ≡ true → each_after is_sound_command d.commands commands ≡ true
    → AreAdded d (written_avps line avps (written_commands commands))
    (record d { avps = d.avps ++ avps; commands = d.commands ++ commands })
avps_added line d [] commands h g =
    let end : record d { commands = d.commands ++ commands } ≡
    record d { avps = d.avps ++ []; commands = d.commands ++ commands } = λ i. record d
    { avps = sym (append-nil d.avps) i; commands = d.commands ++ commands } in
    subst (λ (x : Definitions). AreAdded d (written_commands commands line) x) end (commands_added line d commands g)
avps_added line d (a ∷ avps) commands h g =
    let (first, rest) = and_parts (is_sound_avp d.avps a) (each_after is_sound_avp (d.avps ++ a ∷ []) avps) h in
    let behind = avps_added (line + 1) (with_one d a) avps commands rest g in
    let end : record d { avps = d.avps ++ a ∷ [] ++ avps; commands = d.commands ++ commands } ≡
    record d { avps = d.avps ++ a ∷ avps; commands = d.commands ++ commands } = λ i. record d
    { avps = append_assoc d.avps (a ∷ []) avps i; commands = d.commands ++ commands } in
    subst (λ (x : Definitions). AreAdded d
    (written_avp line a ∷ written_avps (line + 1) avps (written_commands commands)) x) end
    (one_more d (with_one d a) _ (written_avp line a) _ (avp_added line d a first) behind)

vendors_added : (line : ℕ) (d : Definitions) (vendors : List VendorDef) (avps : List AvpDef)
    (commands : List CommandDef)
    → each_after is_sound_vendor d.vendors vendors ≡ true → each_after is_sound_avp d.avps avps ≡ true
    → each_after is_sound_command d.commands commands ≡ true
    → AreAdded d (written_vendors line vendors (λ n. written_avps n avps (written_commands commands)))
    (record { vendors = d.vendors ++ vendors; avps = d.avps ++ avps; commands = d.commands ++ commands })
vendors_added line d [] avps commands f h g =
    let end : record d { avps = d.avps ++ avps; commands = d.commands ++ commands } ≡
    record { vendors = d.vendors ++ []; avps = d.avps ++ avps; commands = d.commands ++ commands } = λ i. record
    { vendors = sym (append-nil d.vendors) i; avps = d.avps ++ avps; commands = d.commands ++ commands } in
    subst (λ (x : Definitions). AreAdded d (written_avps line avps (written_commands commands)) x) end
    (avps_added line d avps commands h g)
vendors_added line d (v ∷ vendors) avps commands f h g =
    let (first, rest) =
    and_parts (is_sound_vendor d.vendors v) (each_after is_sound_vendor (d.vendors ++ v ∷ []) vendors) f in
    let behind = vendors_added (line + 1) (with_one_vendor d v) vendors avps commands rest h g in
    let end : record
    { vendors = d.vendors ++ v ∷ [] ++ vendors; avps = d.avps ++ avps; commands = d.commands ++ commands } ≡
    record { vendors = d.vendors ++ v ∷ vendors; avps = d.avps ++ avps; commands = d.commands ++ commands } = λ i.
    record {
      vendors = append_assoc d.vendors (v ∷ []) vendors i;
      avps = d.avps ++ avps;
      commands = d.commands ++
          commands;
    } in
    subst (λ (x : Definitions). AreAdded d
    (written_vendor line v ∷ written_vendors (line + 1) vendors
    (λ n. written_avps n avps (written_commands commands))) x) end
    (one_more d (with_one_vendor d v) _ (written_vendor line v) _ (vendor_added line d v first) behind)

pub all_added : (line : ℕ) (d : Definitions) → each_after is_sound_vendor [] d.vendors ≡ true
    → each_after is_sound_avp [] d.avps ≡ true → each_after is_sound_command [] d.commands ≡ true
    → AreAdded nothing_defined (written_all d line) d
all_added line d f h g = vendors_added line nothing_defined d.vendors d.avps d.commands f h g

-- nothing is unknown
known_still : (a b : Bool) → (a || b) ≡ true → (a || (b || false)) ≡ true
known_still true b h = refl
known_still false true h = refl
known_still false false h = absurd cc

no_unknown_rule : (line : ℕ) (d : Definitions) (rule : List Entry) → knows_rule d.avps rule ≡ true
    → rule_unknown (with_no_strays d) (written_rule line rule) ≡ []
no_unknown_rule line d [] h = refl
no_unknown_rule line d (e ∷ rule) h =
    let (first, rest) = and_parts (is_entry_known d.avps e) (knows_rule d.avps rule) h in
    let here : (is_any e.name || is_defined (with_no_strays d) e.name) ≡
    true = known_still (is_any e.name) (list_any (is_named e.name) d.avps) first in
    none_both (entry_unknown (with_no_strays d) (written_entry line e)) _ (rw here refl) (no_unknown_rule line d rule rest)

no_vend_unknown : (line : ℕ) (vendors : List VendorDef) (o : Option ℕ) → reference_unknown vendors (written_vend line o) ≡ []
no_vend_unknown line vendors None = refl
no_vend_unknown line vendors (Some n) = refl

no_unknown_avp : (line : ℕ) (d : Definitions) (vendors : List VendorDef) (a : AvpDef) → knows_rule d.avps a.rule ≡ true
    → unknown (with_no_strays d) vendors (written_avp line a) ≡ []
no_unknown_avp line d vendors a h = by (is_grouped a.kind) refl
  where
    by : (b : Bool) → is_grouped a.kind ≡ b
        → unknown (with_no_strays d) vendors (if b then written_group line a else written_plain line a) ≡ []
    by true g = none_both (reference_unknown vendors (written_vend line a.vendor)) _ (no_vend_unknown line vendors a.vendor)
        (no_unknown_rule line d a.rule h)
    by false g = none_both (kind_unknown (word_of line (type_name a.kind))) _
        (ap (λ (o : Option AvpType). fault_if (not (is_some o)) (UnknownName line)) (kind_value a.kind g))
        (no_vend_unknown line vendors a.vendor)

no_unknown_commands : (line : ℕ) (d : Definitions) (vendors : List VendorDef) (commands : List CommandDef)
    → list_all (λ c. knows_rule d.avps c.rule) commands ≡ true
    → items_unknown (with_no_strays d) vendors (written_commands commands line) ≡ []
no_unknown_commands line d vendors [] h = refl
no_unknown_commands line d vendors (c ∷ commands) h =
    let (first, rest) = and_parts (knows_rule d.avps c.rule) (list_all (λ x. knows_rule d.avps x.rule) commands) h in
    none_both (unknown (with_no_strays d) vendors (written_command line c)) _ (no_unknown_rule line d c.rule first)
    (no_unknown_commands (line + 1) d vendors commands rest)

no_unknown_avps : (line : ℕ) (d : Definitions) (vendors : List VendorDef) (avps : List AvpDef)
    → list_all (λ a. knows_rule d.avps a.rule) avps ≡ true → list_all (λ c. knows_rule d.avps c.rule) d.commands ≡ true
    → items_unknown (with_no_strays d) vendors (written_avps line avps (written_commands d.commands)) ≡ []
no_unknown_avps line d vendors [] h g = no_unknown_commands line d vendors d.commands g
no_unknown_avps line d vendors (a ∷ avps) h g =
    let (first, rest) = and_parts (knows_rule d.avps a.rule) (list_all (λ x. knows_rule d.avps x.rule) avps) h in
    none_both (unknown (with_no_strays d) vendors (written_avp line a)) _ (no_unknown_avp line d vendors a first)
    (ap (λ vs. items_unknown (with_no_strays d) vs (written_avps (line + 1) avps (written_commands d.commands)))
    (same_vendors line vendors a) ∙ no_unknown_avps (line + 1) d vendors avps rest g)
  where
    same_vendors : (line : ℕ) (vendors : List VendorDef) (a : AvpDef) →
        vendors_with vendors (written_avp line a) ≡ vendors
    same_vendors line vendors a = by (is_grouped a.kind)
      where
        by : (b : Bool) → vendors_with vendors (if b then written_group line a else written_plain line a) ≡ vendors
        by true = refl
        by false = refl

no_unknown_vendors : (line : ℕ) (d : Definitions) (before vendors : List VendorDef)
    → list_all (λ a. knows_rule d.avps a.rule) d.avps ≡ true →
    list_all (λ c. knows_rule d.avps c.rule) d.commands ≡ true
    → items_unknown (with_no_strays d) before
    (written_vendors line vendors (λ n. written_avps n d.avps (written_commands d.commands))) ≡ []
no_unknown_vendors line d before [] h g = no_unknown_avps line d before d.avps h g
no_unknown_vendors line d before (v ∷ vendors) h g =
    no_unknown_vendors (line + 1) d (vendors_with before (written_vendor line v)) vendors h g

pub no_unknown : (line : ℕ) (d : Definitions) → list_all (λ a. knows_rule d.avps a.rule) d.avps ≡ true
    → list_all (λ c. knows_rule d.avps c.rule) d.commands ≡ true
    → items_unknown (with_no_strays d) [] (written_all d line) ≡ []
no_unknown line d h g = no_unknown_vendors line d [] d.vendors h g
