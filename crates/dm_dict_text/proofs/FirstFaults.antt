-- Of a text of version 1 faults and definitions are those of version 1.
use Rattle.std.proofs.Common.{◌≡◌, ℕ, List, [], ◌∷◌, ◌++◌, map, Option, Some, None, option_map, refl, true, ◌||◌, not, ap, sym, ◌∙◌, ◌↔◌, inl, inr, append-nil}
use Rattle.std.specs.List.{list_all, flat_map}
use Rattle.std.proofs.Math.Bool.{or-false}
use Rattle.std.proofs.lemmas.Bool.{and_parts}
use Rattle.std.proofs.lemmas.List.Folds.{list_all-append}
use Rattle.dm_grammar.specs.Tokens.{Word, tokens}
use Rattle.dm_grammar.specs.Items as written
use Rattle.dm_grammar.specs.Items.{Written}
use Rattle.dm_grammar.specs.Items.VendorReference.{NumberedBy}
use Rattle.dm_grammar.specs.Spelling.{AreItems}
use Rattle.dm_grammar.specs.Syntax.{IsSyntaxFault}
use Rattle.dm_grammar.specs.FirstVersion.{FirstItem, Breaks, as_written, AreFirstWritten}
use Rattle.dm_grammar.specs.FirstVersion.FirstItem.{FirstAvpIs, FirstGroupIs, FirstCommandIs}
use Rattle.dm_dict_text.specs.declared.fault.DictFault.{DictFault}
use Rattle.dm_dict_text.specs.declared.fault.DictFault.TheVariants as is
use Rattle.dm_tables.specs.declared.def.VendorDef.{VendorDef}
use Rattle.dm_tables.specs.declared.def.AvpDef.{AvpDef}
use Rattle.dm_tables.specs.Definitions.{Definitions}
use Rattle.dm_tables.specs.Sound.{is_any}
use Rattle.dm_dict_text.specs.Printed.{has_nothing, is_first_version}
use Rattle.dm_dict_text.specs.Meaning.{number, vendor_of, avp_def_of, group_def_of, with_no_strays, placed, with_item, with_items}
use Rattle.dm_dict_text.specs.Faults.{fault_if, first_dict_fault, range_faults, option_faults, rule_faults, reference_faults, is_taken, is_defined, name_faults, code_faults, item_faults, items_faults, entry_unknown, kind_unknown, reference_unknown, unknown, vendors_with, items_unknown}
use Rattle.dm_tables.specs.Limits.{number_limit}
use Rattle.dm_dict_text.specs.FirstFaults.{first_avp_def, first_group_def, first_with_item, first_with_items, has_name, first_name_faults, first_code_faults, first_item_faults, first_items_faults, first_entry_unknown, first_unknown, first_faults}
use Rattle.dm_dict_text.specs.Outcome.{all_faults, Defines, IsFirstFault}
use Rattle.dm_dict_text.specs.FirstOutcome.{DefinesByFirst, IsFaultByFirst}

-- a vendor that is a number or isn't there
known : (vendors : List VendorDef) (v : Option Word)
    → vendor_of vendors (option_map NumberedBy v) ≡ Some (option_map number v)
known vendors None = refl
known vendors (Some w) = refl

limited : (v : Option Word) → reference_faults (option_map NumberedBy v) ≡ option_faults number_limit v
limited None = refl
limited (Some w) = refl

no_name : (vendors : List VendorDef) (v : Option Word) → reference_unknown vendors (option_map NumberedBy v) ≡ []
no_name vendors None = refl
no_name vendors (Some w) = refl

-- an item defines what it defines by version 1
one_made : (d : Definitions) (i : FirstItem) → with_item (with_no_strays d) (as_written i) ≡ with_no_strays (first_with_item d i)
one_made d (FirstAvpIs p) =
    λ i. placed (with_no_strays d) p.name.text
    (avp_def_of (record {
      name = p.name;
      code = p.code;
      kind = p.kind;
      vendor = option_map NumberedBy p.vendor;
      values = [];
    }))
    (known d.vendors p.vendor i)
one_made d (FirstGroupIs p) =
    λ i. placed (with_no_strays d) p.name.text
    (group_def_of
    (record { name = p.name; code = p.code; vendor = option_map NumberedBy p.vendor; rule = p.rule }))
    (known d.vendors p.vendor i)
one_made d (FirstCommandIs p) = refl

all_made : (d : Definitions) (is : List FirstItem)
    → with_items (with_no_strays d) (map as_written is) ≡ with_no_strays (first_with_items d is)
all_made d [] = refl
all_made d (i ∷ is) =
    ap (λ m. with_items m (map as_written is)) (one_made d i) ∙ all_made (first_with_item d i) is

-- without strays the names are those of the definitions
same_defined : (d : Definitions) (name : List ℕ) → is_defined (with_no_strays d) name ≡ has_name d.avps name
same_defined d name = or-false (has_name d.avps name)

same_name : (d : Definitions) (w : Word) → name_faults (with_no_strays d) w ≡ first_name_faults d.avps w
same_name d w = λ i. fault_if (is_any w.text || same_defined d w.text i) (is.Duplicate w.line)

same_code : (d : Definitions) (code : Word) (v : Option Word)
    → code_faults d code (option_map NumberedBy v) ≡ first_code_faults d.avps code v
same_code d code v =
    λ i. range_faults number_limit code
    ++ fault_if (is_taken d.avps (number code) (known d.vendors v i)) (is.Duplicate code.line) ++ limited v i

same_item : (d : Definitions) (i : FirstItem) → item_faults (with_no_strays d) (as_written i) ≡ first_item_faults d i
same_item d (FirstAvpIs p) =
    append-nil (name_faults (with_no_strays d) p.name ++ code_faults d p.code (option_map NumberedBy p.vendor)) ∙
    (λ i. same_name d p.name i ++ same_code d p.code p.vendor i)
same_item d (FirstGroupIs p) = λ i. same_name d p.name i ++ same_code d p.code p.vendor i ++ rule_faults p.rule
same_item d (FirstCommandIs p) = refl

same_items : (d : Definitions) (is : List FirstItem)
    → items_faults (with_no_strays d) (map as_written is) ≡ first_items_faults d is
same_items d [] = refl
same_items d (i ∷ is) =
    ap (λ m. item_faults (with_no_strays d) (as_written i) ++ items_faults m (map as_written is)) (one_made d i)
    ∙ (λ k. same_item d i k ++ same_items (first_with_item d i) is k)

-- and its unknown names
same_entry : (d : Definitions) (e : written.EntryParts) → entry_unknown (with_no_strays d) e ≡ first_entry_unknown d.avps e
same_entry d e =
    λ i. fault_if (not (is_any e.name.text || same_defined d e.name.text i)) (is.UnknownName e.name.line)

same_rule : (d : Definitions) (rule : List written.EntryParts)
    → flat_map (entry_unknown (with_no_strays d)) rule ≡ flat_map (first_entry_unknown d.avps) rule
same_rule d rule = λ i. flat_map (λ e. same_entry d e i) rule

same_unknown : (d : Definitions) (vendors : List VendorDef) (i : FirstItem)
    → unknown (with_no_strays d) vendors (as_written i) ≡ first_unknown d.avps i
same_unknown d vendors (FirstAvpIs p) =
    ap (λ l. kind_unknown p.kind ++ l) (no_name vendors p.vendor) ∙ append-nil (kind_unknown p.kind)
same_unknown d vendors (FirstGroupIs p) = λ i. no_name vendors p.vendor i ++ same_rule d p.rule i
same_unknown d vendors (FirstCommandIs p) = same_rule d p.rule

no_vendor : (vendors : List VendorDef) (i : FirstItem) → vendors_with vendors (as_written i) ≡ vendors
no_vendor vendors (FirstAvpIs p) = refl
no_vendor vendors (FirstGroupIs p) = refl
no_vendor vendors (FirstCommandIs p) = refl

all_unknown : (d : Definitions) (vendors : List VendorDef) (is : List FirstItem)
    → items_unknown (with_no_strays d) vendors (map as_written is) ≡ flat_map (first_unknown d.avps) is
all_unknown d vendors [] = refl
all_unknown d vendors (i ∷ is) =
    ap (λ v. unknown (with_no_strays d) vendors (as_written i) ++ items_unknown (with_no_strays d) v (map as_written is))
    (no_vendor vendors i)
    ∙ (λ k. same_unknown d vendors i k ++ all_unknown d vendors is k)

same_faults : (d : Definitions) (is : List FirstItem) → all_faults d (map as_written is) ≡ first_faults d is
same_faults d is =
    ap (λ m. items_faults (with_no_strays d) (map as_written is) ++ items_unknown m d.vendors (map as_written is)) (all_made d is)
    ∙ (λ k. same_items d is k ++ all_unknown (first_with_items d is) d.vendors is k)

-- of a whole text that its grammar reads by version 1
abbrev pub ReadsFirst : List ℕ → Type 0
ReadsFirst text = (is : List Written) → AreItems is (tokens text) ↔ AreFirstWritten is (tokens text)

abbrev pub BreaksFirst : List ℕ → Type 0
BreaksFirst text = (line : ℕ) → IsSyntaxFault text line ↔ Breaks text line

made_followed : (d new : Definitions) (is : List FirstItem)
    → new ≡ (with_items (with_no_strays d) (map as_written is)).definitions → new ≡ first_with_items d is
made_followed d new is e = e ∙ ap (λ m. m.definitions) (all_made d is)

to_defines : (text : List ℕ) (old new : Definitions) → ReadsFirst text → Defines text old new
    → DefinesByFirst text old new
to_defines text old new reads d =
    let f = (reads d.items).0 d.grammatical in
    record {
      items = f.0;
      grammatical = f.1.1;
      faultless = sym (same_faults old f.0) ∙ (ap (all_faults old) (sym f.1.0) ∙ d.faultless);
      followed = made_followed old new f.0 (d.followed ∙ ap (λ is. (with_items (with_no_strays old) is).definitions) f.1.0);
    }

from_defines : (text : List ℕ) (old new : Definitions) → ReadsFirst text → DefinesByFirst text old new
    → Defines text old new
from_defines text old new reads d =
    record {
      items = map as_written d.items;
      grammatical = (reads (map as_written d.items)).1 (d.items, (refl, d.grammatical));
      faultless = same_faults old d.items ∙ d.faultless;
      followed = d.followed ∙ sym (ap (λ m. m.definitions) (all_made old d.items));
    }

pub defines_first : (text : List ℕ) (old new : Definitions) → ReadsFirst text →
    Defines text old new ↔ DefinesByFirst text old new
defines_first text old new reads = (to_defines text old new reads, from_defines text old new reads)

to_fault : (text : List ℕ) (old : Definitions) (fault : DictFault) → ReadsFirst text → BreaksFirst text
    → IsFirstFault text old fault → IsFaultByFirst text old fault
to_fault text old fault reads breaks (inl s) = inl (s.0, s.1, (breaks s.0).0 s.2)
to_fault text old fault reads breaks (inr h) =
    let f = (reads h.items).0 h.grammatical in
    inr (record {
      items = f.0;
      grammatical = f.1.1;
      first = ap first_dict_fault (sym (same_faults old f.0)) ∙ (ap (λ is. first_dict_fault (all_faults old is)) (sym f.1.0) ∙ h.first);
    })

from_fault : (text : List ℕ) (old : Definitions) (fault : DictFault) → ReadsFirst text → BreaksFirst text
    → IsFaultByFirst text old fault → IsFirstFault text old fault
from_fault text old fault reads breaks (inl s) = inl (s.0, s.1, (breaks s.0).1 s.2)
from_fault text old fault reads breaks (inr h) =
    inr (record {
      items = map as_written h.items;
      grammatical = (reads (map as_written h.items)).1 (h.items, (refl, h.grammatical));
      first = ap first_dict_fault (same_faults old h.items) ∙ h.first;
    })

pub faults_first : (text : List ℕ) (old : Definitions) (fault : DictFault) → ReadsFirst text → BreaksFirst text →
    IsFirstFault text old fault ↔ IsFaultByFirst text old fault
faults_first text old fault reads breaks =
    (to_fault text old fault reads breaks, from_fault text old fault reads breaks)

-- neither vendors nor lists come
no_lists : (avps : List AvpDef) (a : AvpDef) → list_all (λ a. has_nothing a.values) avps ≡ true → has_nothing a.values ≡ true
    → list_all (λ a. has_nothing a.values) (avps ++ a ∷ []) ≡ true
no_lists avps a h k =
    list_all-append (λ (a : AvpDef). has_nothing a.values) avps (a ∷ []) ∙ rw (h, k) refl

one_stays : (d : Definitions) (i : FirstItem) → is_first_version d ≡ true
    → is_first_version (first_with_item d i) ≡ true
one_stays d (FirstAvpIs p) h =
    let both = and_parts (has_nothing d.vendors) (list_all (λ a. has_nothing a.values) d.avps) h in
    let lists = no_lists d.avps (first_avp_def p) both.1 refl in
    rw (both.0, lists) refl
one_stays d (FirstGroupIs p) h =
    let both = and_parts (has_nothing d.vendors) (list_all (λ a. has_nothing a.values) d.avps) h in
    let lists = no_lists d.avps (first_group_def p) both.1 refl in
    rw (both.0, lists) refl
one_stays d (FirstCommandIs p) h = h

all_stay : (d : Definitions) (is : List FirstItem) → is_first_version d ≡ true
    → is_first_version (first_with_items d is) ≡ true
all_stay d [] h = h
all_stay d (i ∷ is) h = all_stay (first_with_item d i) is (one_stays d i h)

pub stays_first : (text : List ℕ) (old new : Definitions) → ReadsFirst text → is_first_version old ≡ true
    → Defines text old new → is_first_version new ≡ true
stays_first text old new reads h d =
    let f = to_defines text old new reads d in ap is_first_version f.followed ∙ all_stay old f.items h
