-- What the passes over a text's items tell of the text.
use Rattle.std.proofs.Common.{◌≡◌, ◌⊎◌, ◌≤◌, ◌+◌, ℕ, true, List, [], ◌∷◌, ◌++◌, map, fold, take, length, length-append, append-nil, append_assoc, arith, None, Some, Result, Ok, Err, IfOk, IfErr, refl, sym, ap, subst, ◌∙◌, inl, inr}
use Rattle.std.proofs.Math.Seq.{take-append_seam}
use Rattle.dm_grammar.specs.Items.{Written}
use Rattle.dm_grammar.specs.Items.Written.{VendorIs, AvpIs, GroupIs, CommandIs}
use Rattle.dm_grammar.specs.declared.item.Item.{Item}
use Rattle.dm_grammar.specs.Views.{view_item}
use Rattle.dm_grammar.specs.Spelling.{AreItems}
use Rattle.dm_grammar.specs.Tokens.{tokens}
use Rattle.dm_dict_text.specs.declared.fault.DictFault.{DictFault}
use Rattle.dm_dict_text.specs.declared.fault.DictFault.TheVariants.{NoMemory}
use Rattle.dm_tables.specs.declared.tables.Tables.{Tables}
use Rattle.dm_tables.specs.declared.def.VendorDef.{VendorDef}
use Rattle.dm_tables.specs.Definitions.{Definitions}
use Rattle.dm_tables.specs.Tables.{defined}
use Rattle.dm_tables.specs.Sound.{is_closed}
use Rattle.dm_dict_text.specs.Meaning.{vendor_def_of, WithStrays, with_no_strays, with_item, with_items}
use Rattle.dm_dict_text.specs.Faults.{first_dict_fault, StopsAtFirst, items_faults, vendors_with, items_unknown}
use Rattle.dm_dict_text.specs.Outcome.{Defines, IsFirstFault, all_faults}
use Rattle.dm_dict_text.proofs.Along.{stops_left, first_right, none_both}
use Rattle.dm_dict_text.proofs.Closed.{closed_with, item_vendors}

pub seen : (text : List ℕ) (found items : List Item) → AreItems (map view_item found) (tokens text) → items ≡ found
    → AreItems (map view_item items) (tokens text)
seen text found items e same = subst (λ (l : List Item). AreItems (map view_item l) (tokens text)) (sym same) e

no_first : (fs : List DictFault) → first_dict_fault fs ≡ None → fs ≡ []
no_first [] e = refl
no_first (f ∷ fs) e = absurd cc

-- the vendors of what items make are those before them, and theirs
made_vendors : (m : WithStrays) (items : List Written)
    → (with_items m items).definitions.vendors ≡ fold vendors_with m.definitions.vendors items
made_vendors m [] = refl
made_vendors m (i ∷ items) =
    made_vendors (with_item m i) items ∙ ap (λ vs. fold vendors_with vs items) (item_vendors m i)

vendors_more : (vs : List VendorDef) (i : Written) → (more : List VendorDef) × (vendors_with vs i ≡ vs ++ more)
vendors_more vs (VendorIs p) = (vendor_def_of p ∷ [], refl)
vendors_more vs (AvpIs p) = ([], sym (append-nil vs))
vendors_more vs (GroupIs p) = ([], sym (append-nil vs))
vendors_more vs (CommandIs p) = ([], sym (append-nil vs))

pub all_vendors : (vs : List VendorDef) (items : List Written)
    → (more : List VendorDef) × (fold vendors_with vs items ≡ vs ++ more)
all_vendors vs [] = ([], sym (append-nil vs))
all_vendors vs (i ∷ items) =
    let (first, e) = vendors_more vs i in
    let (rest, g) = all_vendors (vendors_with vs i) items in
    (first ++ rest, g ∙ ap (λ l. l ++ rest) e ∙ append_assoc vs first rest)

pub first_vendors : (vs : List VendorDef) (items : List Written) → take (length vs) (fold vendors_with vs items) ≡ vs
first_vendors vs items =
    let more = all_vendors vs items in ap (take (length vs)) more.1 ∙ take-append_seam vs more.0

within_vendors : (vs : List VendorDef) (items : List Written) → length vs ≤ length (fold vendors_with vs items)
within_vendors vs items =
    let more = all_vendors vs items in
    let long : length (fold vendors_with vs items) ≡ length vs + length more.0 = ap length more.1
    ∙ length-append vs more.0 in omega arith

module _ (old : Definitions) (items : List Written) where
  -- a fault of the items beside the copies comes first
  pub item_stops : (copy : WithStrays) (f : DictFault) → copy ≡ with_no_strays old → StopsAtFirst (items_faults copy items) f
      → StopsAtFirst (all_faults old items) f
  item_stops copy f e h =
      stops_left (items_faults (with_no_strays old) items) _ f (subst (λ (m : WithStrays). StopsAtFirst (items_faults m items) f) e h)

  module _ (copy new : WithStrays) (same : copy ≡ with_no_strays old) (none : items_faults copy items ≡ [])
      (added : new ≡ with_items copy items) where
    none_here : items_faults (with_no_strays old) items ≡ []
    none_here = subst (λ (m : WithStrays). items_faults m items ≡ []) same none

    made_here : new ≡ with_items (with_no_strays old) items
    made_here = added ∙ ap (λ m. with_items m items) same

    pub added_here : new.definitions ≡ (with_items (with_no_strays old) items).definitions
    added_here = ap (λ m. m.definitions) made_here

    vendors_here : new.definitions.vendors ≡ fold vendors_with old.vendors items
    vendors_here = ap (λ d. d.vendors) added_here ∙ made_vendors (with_no_strays old) items

    pub first_here : (n : ℕ) → n ≡ length old.vendors → take n new.definitions.vendors ≡ old.vendors
    first_here n e = (λ i. take (e i) (vendors_here i)) ∙ first_vendors old.vendors items

    pub within_here : (n : ℕ) → n ≡ length old.vendors → n ≤ length new.definitions.vendors
    within_here n e =
        let long : length old.vendors ≤ length (fold vendors_with old.vendors items) =
        within_vendors old.vendors items in
        let same_long : length new.definitions.vendors ≡ length (fold vendors_with old.vendors items) =
        ap length vendors_here in
        omega arith

    pub theirs_here : (n : ℕ) → n ≡ length old.vendors
        → fold vendors_with (take n new.definitions.vendors) items ≡ new.definitions.vendors
    theirs_here n e = ap (λ vs. fold vendors_with vs items) (first_here n e) ∙ sym vendors_here

    unknown_here : (n : ℕ) → n ≡ length old.vendors
        → items_unknown new (take n new.definitions.vendors) items ≡
        items_unknown (with_items (with_no_strays old) items) old.vendors items
    unknown_here n e = λ i. items_unknown (made_here i) (first_here n e i) items

    pub unknown_stops : (n : ℕ) → n ≡ length old.vendors → (f : DictFault)
        → Some f ≡ first_dict_fault (items_unknown new (take n new.definitions.vendors) items) → StopsAtFirst (all_faults old items) f
    unknown_stops n e f h =
        inr (first_right (items_faults (with_no_strays old) items) _ f none_here (sym (h ∙ ap first_dict_fault (unknown_here n e))))

    none_unknown : (n : ℕ) → n ≡ length old.vendors
        → None ≡ first_dict_fault (items_unknown new (take n new.definitions.vendors) items)
        → items_unknown (with_items (with_no_strays old) items) old.vendors items ≡ []
    none_unknown n e h = no_first _ (sym (h ∙ ap first_dict_fault (unknown_here n e)))

    pub faultless : (n : ℕ) → n ≡ length old.vendors
        → None ≡ first_dict_fault (items_unknown new (take n new.definitions.vendors) items) → all_faults old items ≡ []
    faultless n e h = none_both (items_faults (with_no_strays old) items) _ none_here (none_unknown n e h)

    pub closes : (n : ℕ) → n ≡ length old.vendors
        → None ≡ first_dict_fault (items_unknown new (take n new.definitions.vendors) items) → is_closed old ≡ true
        → is_closed new.definitions ≡ true
    closes n e h closed =
        subst (λ (d : Definitions). is_closed d ≡ true) (sym added_here)
        (closed_with old items closed (none_unknown n e h))

  module _ (text : List ℕ) (grammatical : AreItems items (tokens text)) where
    pub reads : (r : Result Tables DictFault) → IfOk r (λ _. all_faults old items ≡ [])
        → IfOk r (λ new. defined new ≡ (with_items (with_no_strays old) items).definitions) →
        IfOk r (λ new. Defines text old (defined new))
    reads (Ok new) none added = record { items = items; grammatical = grammatical; faultless = none; followed = added }
    reads (Err f) none added = tt

    first_fault : (f : DictFault) → StopsAtFirst (all_faults old items) f → (f ≡ NoMemory) ⊎ IsFirstFault text old f
    first_fault f (inl e) = inl e
    first_fault f (inr e) = inr (inr (record { items = items; grammatical = grammatical; first = e }))

    pub refuses : (r : Result Tables DictFault) → IfErr r (StopsAtFirst (all_faults old items))
        → IfErr r (λ f. (f ≡ NoMemory) ⊎ IsFirstFault text old f)
    refuses (Ok new) h = tt
    refuses (Err f) h = first_fault f h
