-- Where nothing is unknown, there are no strays, and each entry names a definition.
use Rattle.std.proofs.Common.{◌≡◌, ℕ, Bool, true, false, cond, ◌&&◌, ◌||◌, not, nat_eq, find, List, [], ◌∷◌, ◌++◌, map, Option, Some, None, is_some, option_map, refl, sym, ap, subst, ◌∙◌, append_assoc, append-nil}
use Rattle.std.proofs.lemmas.Bool.{and_parts}
use Rattle.std.proofs.lemmas.List.Folds.{list_any-append}
use Rattle.std.specs.List.{list_any, list_all}
use Rattle.std.specs.Cmp.Lexicographic.{pointwise}
use Rattle.dm_grammar.specs.Items as written
use Rattle.dm_grammar.specs.Items.{Written, VendorReference}
use Rattle.dm_grammar.specs.Items.VendorReference.{NumberedBy, NamedBy}
use Rattle.dm_grammar.specs.Items.Written.{VendorIs, AvpIs, GroupIs, CommandIs}
use Rattle.dm_dict_text.specs.declared.fault.DictFault.{DictFault}
use Rattle.dm_dict_text.specs.declared.fault.DictFault.TheVariants.{UnknownName}
use Rattle.dm_tables.specs.declared.rule.Entry.{Entry}
use Rattle.dm_tables.specs.declared.def.VendorDef.{VendorDef}
use Rattle.dm_tables.specs.declared.def.AvpDef.{AvpDef}
use Rattle.dm_tables.specs.Definitions.{Definitions, is_vendor, is_named}
use Rattle.dm_tables.specs.Sound.{is_any, is_entry_known, knows_rule, is_closed}
use Rattle.dm_dict_text.specs.Meaning.{number, entry_of, avp_def_of, group_def_of, command_def_of, vendor_of, WithStrays, with_no_strays, placed, with_item, with_items}
use Rattle.dm_dict_text.specs.Faults.{fault_if, is_defined, entry_unknown, rule_unknown, reference_unknown, kind_unknown, unknown, vendors_with, items_unknown}
use Rattle.dm_dict_text.proofs.Along.{none_left, none_right}

is_some-find : {D : Type 0} (p : D → Bool) (ds : List D) → is_some (find p ds) ≡ list_any p ds
is_some-find p [] = refl
is_some-find p (d ∷ ds) = by (p d) (is_some-find p ds)
  where
    by : (b : Bool) → is_some (find p ds) ≡ list_any p ds → is_some (cond b (Some d) (find p ds)) ≡ (b || list_any p ds)
    by true rest = refl
    by false rest = rest

-- the entries of d name AVPs of the list
abbrev ClosedIn : List AvpDef → Definitions → Bool
ClosedIn avps d = list_all (λ a. knows_rule avps a.rule) d.avps && list_all (λ c. knows_rule avps c.rule) d.commands

known_here : (b : Bool) (f : DictFault) → fault_if (not b) f ≡ [] → b ≡ true
known_here true f e = refl
known_here false f e = absurd cc

both : (a b : Bool) → a ≡ true → b ≡ true → (a && b) ≡ true
both a b e g = rw (e, g) refl

-- a vendor that isn't unknown
found_some : {A B : Type 0} (f : A → B) (o : Option A) → is_some o ≡ true → (x : B) × (option_map f o ≡ Some x)
found_some f None e = absurd cc
found_some f (Some x) e = (f x, refl)

vendor_known : (vendors : List VendorDef) (vend : Option VendorReference) → reference_unknown vendors vend ≡ []
    → (v : Option ℕ) × (vendor_of vendors vend ≡ Some v)
vendor_known vendors None e = (None, refl)
vendor_known vendors (Some (NumberedBy w)) e = (Some (number w), refl)
vendor_known vendors (Some (NamedBy w)) e =
    let some : is_some (find (is_vendor w.text) vendors) ≡ true = is_some-find (is_vendor w.text) vendors ∙ known_here
    (list_any (is_vendor w.text) vendors) (UnknownName w.line) e in
    let found = found_some (λ (v : VendorDef). v.number) (find (is_vendor w.text) vendors) some in
    (Some found.0, ap (option_map Some) found.1)

no_stray : (m : WithStrays) (name : List ℕ) (def : Option ℕ → AvpDef) (o : Option (Option ℕ)) (v : Option ℕ) → o ≡ Some v
    → m.strays ≡ [] → (placed m name def o).strays ≡ []
no_stray m name def None v e h = absurd cc
no_stray m name def (Some u) v e h = h

item_no_stray : (all m : WithStrays) (i : Written) → unknown all m.definitions.vendors i ≡ [] → m.strays ≡ []
    → (with_item m i).strays ≡ []
item_no_stray all m (VendorIs p) e h = h
item_no_stray all m (AvpIs p) e h =
    let known = vendor_known m.definitions.vendors p.vendor (none_right (kind_unknown p.kind) _ e) in
    no_stray m p.name.text (avp_def_of p) _ known.0 known.1 h
item_no_stray all m (GroupIs p) e h =
    let known = vendor_known m.definitions.vendors p.vendor
    (none_left (reference_unknown m.definitions.vendors p.vendor) _ e) in
    no_stray m p.name.text (group_def_of p) _ known.0 known.1 h
item_no_stray all m (CommandIs p) e h = h

placed_vendors : (m : WithStrays) (name : List ℕ) (def : Option ℕ → AvpDef) (o : Option (Option ℕ))
    → (placed m name def o).definitions.vendors ≡ m.definitions.vendors
placed_vendors m name def None = refl
placed_vendors m name def (Some v) = refl

-- the vendors behind an item are those of what is made
pub item_vendors : (m : WithStrays) (i : Written)
    → (with_item m i).definitions.vendors ≡ vendors_with m.definitions.vendors i
item_vendors m (VendorIs p) = refl
item_vendors m (AvpIs p) = placed_vendors m p.name.text (avp_def_of p) (vendor_of m.definitions.vendors p.vendor)
item_vendors m (GroupIs p) = placed_vendors m p.name.text (group_def_of p) (vendor_of m.definitions.vendors p.vendor)
item_vendors m (CommandIs p) = refl

no_strays : (all m : WithStrays) (items : List Written) → items_unknown all m.definitions.vendors items ≡ []
    → m.strays ≡ [] → (with_items m items).strays ≡ []
no_strays all m [] e h = h
no_strays all m (i ∷ items) e h =
    no_strays all (with_item m i) items
    (ap (λ vs. items_unknown all vs items) (item_vendors m i) ∙ none_right (unknown all m.definitions.vendors i) _ e)
    (item_no_stray all m i (none_left (unknown all m.definitions.vendors i) _ e) h)

without_strays : (a b : Bool) (name : List ℕ) (strays : List (List ℕ)) → strays ≡ []
    → (a || (b || list_any (pointwise nat_eq name) strays)) ≡ true → (a || b) ≡ true
without_strays true b name strays none e = refl
without_strays false true name strays none e = refl
without_strays false false name strays none e =
    let bad : (false || (false || false)) ≡ true = subst
    (λ (l : List (List ℕ)). (false || (false || list_any (pointwise nat_eq name) l)) ≡ true) none e in absurd cc

rule_known : (all : WithStrays) (rule : List written.EntryParts) → all.strays ≡ [] → rule_unknown all rule ≡ []
    → knows_rule all.definitions.avps (map entry_of rule) ≡ true
rule_known all [] none e = refl
rule_known all (x ∷ rule) none e =
    both _ _
    (without_strays (is_any x.name.text) (list_any (is_named x.name.text) all.definitions.avps) x.name.text all.strays
    none
    (known_here (is_any x.name.text || is_defined all x.name.text) (UnknownName x.name.line)
    (none_left (entry_unknown all x) _ e)))
    (rule_known all rule none (none_right (entry_unknown all x) _ e))

or_more : (a b c : Bool) → (a || b) ≡ true → (a || (b || c)) ≡ true
or_more true b c e = refl
or_more false true c e = refl
or_more false false c e = absurd cc

known_more : (avps more : List AvpDef) (rule : List Entry) → knows_rule avps rule ≡ true
    → knows_rule (avps ++ more) rule ≡ true
known_more avps more [] h = refl
known_more avps more (e ∷ rule) h =
    let (here, rest) = and_parts (is_entry_known avps e) (knows_rule avps rule) h in
    let still : is_entry_known (avps ++ more) e ≡ true = ap (λ b. is_any e.name || b)
    (list_any-append (is_named e.name) avps more) ∙ or_more (is_any e.name) (list_any (is_named e.name) avps)
    (list_any (is_named e.name) more) here in
    both _ _ still (known_more avps more rule rest)

all_more : {D : Type 0} (rule : D → List Entry) (avps more : List AvpDef) (ds : List D)
    → list_all (λ d. knows_rule avps (rule d)) ds ≡ true → list_all (λ d. knows_rule (avps ++ more) (rule d)) ds ≡ true
all_more rule avps more [] h = refl
all_more rule avps more (d ∷ ds) h =
    let (here, rest) = and_parts (knows_rule avps (rule d)) (list_all (λ x. knows_rule avps (rule x)) ds) h in
    both _ _ (known_more avps more (rule d) here) (all_more rule avps more ds rest)

all_push : {D : Type 0} (p : D → Bool) (ds : List D) (d : D) → list_all p ds ≡ true → p d ≡ true
    → list_all p (ds ++ d ∷ []) ≡ true
all_push p [] d h e = rw e refl
all_push p (x ∷ ds) d h e =
    let (here, rest) = and_parts (p x) (list_all p ds) h in both _ _ here (all_push p ds d rest e)

closed_placed : (avps : List AvpDef) (m : WithStrays) (name : List ℕ) (def : Option ℕ → AvpDef) (o : Option (Option ℕ))
    → ((v : Option ℕ) → knows_rule avps (def v).rule ≡ true) → ClosedIn avps m.definitions ≡ true
    → ClosedIn avps (placed m name def o).definitions ≡ true
closed_placed avps m name def None k h = h
closed_placed avps m name def (Some v) k h =
    let (l, r) = and_parts (list_all (λ a. knows_rule avps a.rule) m.definitions.avps)
    (list_all (λ c. knows_rule avps c.rule) m.definitions.commands) h in
    both _ _ (all_push (λ a. knows_rule avps a.rule) m.definitions.avps (def v) l (k v)) r

closed_item : (all m : WithStrays) (vendors : List VendorDef) (i : Written) → all.strays ≡ []
    → ClosedIn all.definitions.avps m.definitions ≡ true → unknown all vendors i ≡ []
    → ClosedIn all.definitions.avps (with_item m i).definitions ≡ true
closed_item all m vendors (VendorIs p) none h e = h
closed_item all m vendors (AvpIs p) none h e =
    closed_placed all.definitions.avps m p.name.text (avp_def_of p) (vendor_of m.definitions.vendors p.vendor)
    (λ v. refl) h
closed_item all m vendors (GroupIs p) none h e =
    closed_placed all.definitions.avps m p.name.text (group_def_of p) (vendor_of m.definitions.vendors p.vendor)
    (λ v. rule_known all p.rule none (none_right (reference_unknown vendors p.vendor) _ e)) h
closed_item all m vendors (CommandIs p) none h e =
    let avps = all.definitions.avps in
    let (l, r) = and_parts (list_all (λ a. knows_rule avps a.rule) m.definitions.avps)
    (list_all (λ c. knows_rule avps c.rule) m.definitions.commands) h in
    both _ _ l
    (all_push (λ c. knows_rule avps c.rule) m.definitions.commands (command_def_of p) r (rule_known all p.rule none e))

closed_items : (all m : WithStrays) (vendors : List VendorDef) (items : List Written) → all.strays ≡ []
    → ClosedIn all.definitions.avps m.definitions ≡ true → items_unknown all vendors items ≡ []
    → ClosedIn all.definitions.avps (with_items m items).definitions ≡ true
closed_items all m vendors [] none h e = h
closed_items all m vendors (i ∷ items) none h e =
    closed_items all (with_item m i) (vendors_with vendors i) items none
    (closed_item all m vendors i none h (none_left (unknown all vendors i) _ e))
    (none_right (unknown all vendors i) _ e)

-- the AVPs of the items stand behind those before
placed_more : (m : WithStrays) (name : List ℕ) (def : Option ℕ → AvpDef) (o : Option (Option ℕ))
    → (more : List AvpDef) × ((placed m name def o).definitions.avps ≡ m.definitions.avps ++ more)
placed_more m name def None = ([], sym (append-nil m.definitions.avps))
placed_more m name def (Some v) = (def v ∷ [], refl)

item_more : (m : WithStrays) (i : Written)
    → (more : List AvpDef) × ((with_item m i).definitions.avps ≡ m.definitions.avps ++ more)
item_more m (VendorIs p) = ([], sym (append-nil m.definitions.avps))
item_more m (AvpIs p) = placed_more m p.name.text (avp_def_of p) (vendor_of m.definitions.vendors p.vendor)
item_more m (GroupIs p) = placed_more m p.name.text (group_def_of p) (vendor_of m.definitions.vendors p.vendor)
item_more m (CommandIs p) = ([], sym (append-nil m.definitions.avps))

items_more : (m : WithStrays) (items : List Written)
    → (more : List AvpDef) × ((with_items m items).definitions.avps ≡ m.definitions.avps ++ more)
items_more m [] = ([], sym (append-nil m.definitions.avps))
items_more m (i ∷ items) =
    let (first, e) = item_more m i in
    let (rest, g) = items_more (with_item m i) items in
    (first ++ rest, g ∙ ap (λ l. l ++ rest) e ∙ append_assoc m.definitions.avps first rest)

pub closed_with : (old : Definitions) (items : List Written) → is_closed old ≡ true
    → items_unknown (with_items (with_no_strays old) items) old.vendors items ≡ []
    → is_closed (with_items (with_no_strays old) items).definitions ≡ true
closed_with old items h e =
    let all = with_items (with_no_strays old) items in
    let none = no_strays all (with_no_strays old) items e refl in
    let more = items_more (with_no_strays old) items in
    let (l, r) = and_parts (list_all (λ a. knows_rule old.avps a.rule) old.avps)
    (list_all (λ c. knows_rule old.avps c.rule) old.commands) h in
    let still : ClosedIn (old.avps ++ more.0) old ≡ true = both _ _ (all_more (λ a. a.rule) old.avps more.0 old.avps l)
    (all_more (λ c. c.rule) old.avps more.0 old.commands r) in
    closed_items all (with_no_strays old) old.vendors items none
    (subst (λ (avps : List AvpDef). ClosedIn avps old ≡ true) (sym more.1) still) e
