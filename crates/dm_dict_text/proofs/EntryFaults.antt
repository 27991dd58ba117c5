-- The faults of an entry, and what is known where it has none.
use Rattle.std.proofs.Common.{◌≡◌, ℕ, Bool, true, false, ◌||◌, nat_eq, List, [], ◌∷◌, ◌++◌, cond, map, refl, sym, ap, ◌∙◌, inr}
use Rattle.std.proofs.lemmas.List.{map-append}
use Rattle.std.specs.List.{list_any}
use Rattle.std.specs.Cmp.Lexicographic.{pointwise}
use Rattle.dm_grammar.specs.Items as written
use Rattle.dm_tables.specs.declared.rule.Entry.{Entry}
use Rattle.dm_dict_text.specs.declared.fault.DictFault.TheVariants.{Duplicate, Order}
use Rattle.dm_tables.specs.Forms.{form_number}
use Rattle.dm_tables.specs.Sound.{is_repeated, is_late}
use Rattle.dm_dict_text.specs.Faults.{StopsAtFirst, bound_faults, place_faults, rule_entry_faults}
use Rattle.dm_dict_text.proofs.Along.{stops_right, none_both}

pub any-map : {A B : Type 0} (p : B → Bool) (f : A → B) (xs : List A) →
    list_any p (map f xs) ≡ list_any (λ x. p (f x)) xs
any-map p f [] = refl
any-map p f (x ∷ xs) = ap (λ b. p (f x) || b) (any-map p f xs)

-- the names that are kept tell whether a name stands there already
pub repeated : {A : Type 0} (shown : A → List ℕ) (ks : List A) (es : List Entry) (name : List ℕ)
    → map shown ks ≡ map (λ e. e.name) es → list_any (λ k. pointwise nat_eq name (shown k)) ks ≡ is_repeated es name
repeated shown ks es name e =
    sym (any-map (pointwise nat_eq name) shown ks) ∙ ap (list_any (pointwise nat_eq name)) e ∙ any-map
    (pointwise nat_eq name) (λ x. x.name) es

pub duplicate_stops : (before : List Entry) (e : written.EntryParts) → bound_faults e ≡ []
    → is_repeated before e.name.text ≡ true → StopsAtFirst (rule_entry_faults before e) (Duplicate e.name.line)
duplicate_stops before e none h =
    stops_right (bound_faults e) (place_faults before e) (Duplicate e.name.line) none (rw h (inr refl))

pub order_stops : (before : List Entry) (e : written.EntryParts) → bound_faults e ≡ []
    → is_repeated before e.name.text ≡ false → is_late before (form_number e.form) ≡ true
    → StopsAtFirst (rule_entry_faults before e) (Order e.name.line)
order_stops before e none h g =
    stops_right (bound_faults e) (place_faults before e) (Order e.name.line) none (rw (h, g) (inr refl))

pub no_entry_fault : (before : List Entry) (e : written.EntryParts) → bound_faults e ≡ []
    → is_repeated before e.name.text ≡ false → is_late before (form_number e.form) ≡ false
    → rule_entry_faults before e ≡ []
no_entry_fault before e none h g = none_both (bound_faults e) (place_faults before e) none (rw (h, g) refl)

-- one name more is kept, which none of the entries has
pub more_names : {A : Type 0} (shown : A → List ℕ) (ks new : List A) (es : List Entry) (k : A)
    → map shown ks ≡ map (λ e. e.name) es → is_repeated es (shown k) ≡ false
    → new ≡ cond (list_any (λ x. pointwise nat_eq (shown k) (shown x)) ks) ks (ks ++ k ∷ [])
    → map shown new ≡ map (λ e. e.name) es ++ shown k ∷ []
more_names shown ks new es k same fresh is =
    let none = repeated shown ks es (shown k) same ∙ fresh in
    ap (map shown) (is ∙ ap (λ b. cond b ks (ks ++ k ∷ [])) none) ∙ map-append shown ks (k ∷ [])
    ∙ ap (λ l. l ++ shown k ∷ []) same
