-- The faults of a value of a list, and what is known where it has none.
use Rattle.std.proofs.Common.{◌≡◌, ℤ, pos, ℕ, Bool, true, false, nat_eq, List, [], ◌∷◌, ◌++◌, map, refl, sym, ap, ◌∙◌, inr}
use Rattle.std.proofs.lemmas.List.{map-append}
use Rattle.std.specs.List.{list_any}
use Rattle.std.specs.Ordering.{int_eq}
use Rattle.std.specs.Cmp.Lexicographic.{pointwise}
use Rattle.indexmap.specs.IndexSet.{insert_key}
use Rattle.dm_grammar.specs.Items as written
use Rattle.dm_tables.specs.declared.values.EnumValue.{EnumValue}
use Rattle.dm_dict_text.specs.declared.fault.DictFault.{DictFault}
use Rattle.dm_dict_text.specs.declared.fault.DictFault.TheVariants.{Duplicate}
use Rattle.dm_tables.specs.Listed.{has_number}
use Rattle.dm_tables.specs.Sound.{is_value}
use Rattle.dm_dict_text.specs.Meaning.{number}
use Rattle.dm_dict_text.specs.Faults.{StopsAtFirst, fault_if, range_faults, listed_value_faults}
use Rattle.dm_tables.specs.Limits.{listed_limit}
use Rattle.dm_dict_text.proofs.Along.{stops_left, stops_right, none_both}
use Rattle.dm_dict_text.proofs.EntryFaults.{any-map}

-- the names and numbers that are kept tell whether one stands there already
pub name_kept : {A : Type 0} (shown : A → List ℕ) (ks : List A) (vs : List EnumValue) (name : List ℕ)
    → map shown ks ≡ map (λ v. v.name) vs
    → list_any (λ k. pointwise nat_eq name (shown k)) ks ≡ list_any (is_value name) vs
name_kept shown ks vs name e =
    sym (any-map (pointwise nat_eq name) shown ks) ∙ ap (list_any (pointwise nat_eq name)) e ∙ any-map
    (pointwise nat_eq name) (λ v. v.name) vs

pub number_kept : (ks : List ℤ) (vs : List EnumValue) (n : ℤ) → ks ≡ map (λ v. v.number) vs
    → list_any (int_eq n) ks ≡ list_any (has_number n) vs
number_kept ks vs n e = ap (list_any (int_eq n)) e ∙ any-map (int_eq n) (λ v. v.number) vs

module _ (before : List EnumValue) (v : written.ValueParts) where
  abbrev twice : List DictFault
  twice = fault_if (list_any (is_value v.name.text) before) (Duplicate v.name.line)

  abbrev taken : List DictFault
  taken = fault_if (list_any (has_number (pos (number v.number))) before) (Duplicate v.number.line)

  pub name_stops : list_any (is_value v.name.text) before ≡ true → StopsAtFirst (listed_value_faults before v) (Duplicate v.name.line)
  name_stops h =
      stops_left (twice ++ range_faults listed_limit v.number) taken (Duplicate v.name.line)
      (stops_left twice (range_faults listed_limit v.number) (Duplicate v.name.line) (rw h (inr refl)))

  pub range_stops : (f : DictFault) → list_any (is_value v.name.text) before ≡ false
      → StopsAtFirst (range_faults listed_limit v.number) f → StopsAtFirst (listed_value_faults before v) f
  range_stops f h s =
      stops_left (twice ++ range_faults listed_limit v.number) taken f
      (stops_right twice (range_faults listed_limit v.number) f (rw h refl) s)

  pub number_stops : list_any (is_value v.name.text) before ≡ false → range_faults listed_limit v.number ≡ []
      → list_any (has_number (pos (number v.number))) before ≡ true
      → StopsAtFirst (listed_value_faults before v) (Duplicate v.number.line)
  number_stops h none g =
      stops_right (twice ++ range_faults listed_limit v.number) taken (Duplicate v.number.line)
      (none_both twice (range_faults listed_limit v.number) (rw h refl) none) (rw g (inr refl))

  pub no_value_fault : list_any (is_value v.name.text) before ≡ false → range_faults listed_limit v.number ≡ []
      → list_any (has_number (pos (number v.number))) before ≡ false → listed_value_faults before v ≡ []
  no_value_fault h none g =
      none_both (twice ++ range_faults listed_limit v.number) taken
      (none_both twice (range_faults listed_limit v.number) (rw h refl) none) (rw g refl)

-- a key that is new goes last
pub key_last : {K : Type 0} (same : K → K → Bool) (ks : List K) (k : K) → list_any (same k) ks ≡ false
    → insert_key same ks k ≡ ks ++ k ∷ []
key_last same ks k h = rw h refl

pub key_pushed : {K D : Type 0} (same : K → K → Bool) (key : D → K) (old new : List K) (ds : List D) (d : D) (k : K)
    → old ≡ map key ds → new ≡ insert_key same old k → k ≡ key d → list_any (same k) old ≡ false
    → new ≡ map key (ds ++ d ∷ [])
key_pushed same key old new ds d k had put named fresh =
    put ∙ key_last same old k fresh ∙ (λ i. had i ++ named i ∷ []) ∙ sym (map-append key ds (d ∷ []))
