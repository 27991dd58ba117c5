-- The places of definitions in an index.
use Rattle.std.proofs.Common.{◌≡◌, ℕ, ◌+◌, Bool, true, false, ◌||◌, cond, List, [], ◌∷◌, ◌++◌, length, map, slice_get, find, Some, None, refl, sym, ap, subst, ◌∙◌, append_assoc, length-append, add-zero, arith, suc, Result, Ok, Err, OnOk}
use Rattle.std.specs.Option.{option_and_then}
use Rattle.std.specs.Map.{lookup}
use Rattle.std.specs.List.{list_any, position_from}
use Rattle.indexmap.specs.IndexMap.{insert_entry}
use Rattle.dm_tables.specs.Positions.{places}

-- the member behind some others
member_behind : {D : Type 0} (before : List D) (d : D) (ds : List D)
    → slice_get (before ++ d ∷ ds) (length before) ≡ Some d
member_behind [] d ds = refl
member_behind (b ∷ before) d ds = member_behind before d ds

module _ {D : Type 0} (p : D → Bool) where
  -- the member at the first place is the first that passes
  at_place_from : (before ds : List D)
      → option_and_then (slice_get (before ++ ds)) (position_from p (length before) ds) ≡ find p ds
  at_place_from before [] = refl
  at_place_from before (d ∷ ds) =
      by (p d)
      (rw (append_assoc before (d ∷ []) ds, length-append before (d ∷ [])) at (at_place_from (before ++ d ∷ []) ds))
    where
      by : (b : Bool)
          → option_and_then (slice_get (before ++ d ∷ ds)) (position_from p (length before + 1) ds) ≡ find p ds
          → option_and_then (slice_get (before ++ d ∷ ds))
          (cond b (Some (length before)) (position_from p (length before + 1) ds)) ≡ cond b (Some d) (find p ds)
      by true rest = member_behind before d ds
      by false rest = rest

  pub at_place : (ds : List D) → option_and_then (slice_get ds) (position_from p 0 ds) ≡ find p ds
  at_place ds = at_place_from [] ds

module _ {D K : Type 0} (test : K → Bool) (key : D → K) where
  -- the place of a key is that of the first member that has it
  placed_from : (n : ℕ) (ds : List D)
      → lookup test (places key n ds) ≡ position_from (λ d. test (key d)) n ds
  placed_from n [] = refl
  placed_from n (d ∷ ds) = ap (λ r. cond (test (key d)) (Some n) r) (placed_from (n + 1) ds)

  pub placed : (ds : List D) (es : List (K × ℕ)) → es ≡ places key 0 ds
      → lookup test es ≡ position_from (λ d. test (key d)) 0 ds
  placed ds es e = ap (lookup test) e ∙ placed_from 0 ds

  -- no member has the key, so it isn't there
  absent : (n : ℕ) (ds : List D) → list_any (λ d. test (key d)) ds ≡ false → lookup test (places key n ds) ≡ None
  absent n [] h = refl
  absent n (d ∷ ds) h = by (test (key d)) h (absent (n + 1) ds)
    where
      by : (b : Bool) → (b || list_any (λ e. test (key e)) ds) ≡ false
          → (list_any (λ e. test (key e)) ds ≡ false → lookup test (places key (n + 1) ds) ≡ None)
          → cond b (Some n) (lookup test (places key (n + 1) ds)) ≡ None
      by true h rest = absurd cc
      by false h rest = rest h

-- a look-up by what the keys show
pub lookup-map : {A K X : Type 0} (test : K → Bool) (shown : A → K) (es : List (A × X))
    → lookup test (map (λ e. (shown e.0, e.1)) es) ≡ lookup (λ a. test (shown a)) es
lookup-map test shown [] = refl
lookup-map test shown (e ∷ es) = ap (λ r. cond (test (shown e.0)) (Some e.1) r) (lookup-map test shown es)

pub placed_shown : {A D K : Type 0} (test : K → Bool) (key : D → K) (shown : A → K) (ds : List D)
    (es : List (A × ℕ)) → map (λ e. (shown e.0, e.1)) es ≡ places key 0 ds
    → lookup (λ a. test (shown a)) es ≡ position_from (λ d. test (key d)) 0 ds
placed_shown test key shown ds es e = sym (lookup-map test shown es) ∙ placed test key ds _ e

pub found_shown : {A D K : Type 0} (test : K → Bool) (key : D → K) (shown : A → K) (ds : List D) (es : List (A × ℕ))
    → map (λ e. (shown e.0, e.1)) es ≡ places key 0 ds
    → option_and_then (slice_get ds) (lookup (λ a. test (shown a)) es) ≡ find (λ d. test (key d)) ds
found_shown test key shown ds es e =
    ap (option_and_then (slice_get ds)) (placed_shown test key shown ds es e) ∙ at_place (λ d. test (key d)) ds

-- one more at the end
places-append : {D K : Type 0} (key : D → K) (n : ℕ) (ds : List D) (d : D)
    → places key n (ds ++ d ∷ []) ≡ places key n ds ++ (key d, n + length ds) ∷ []
places-append key n [] d = ap (λ m. (key d, m) ∷ []) (sym (add-zero n))
places-append key n (e ∷ ds) d =
    let same : n + 1 + length ds ≡ n + suc (length ds) = omega arith in
    ap (λ r. (key e, n) ∷ r) (places-append key (n + 1) ds d ∙ ap (λ m. places key (n + 1) ds ++ (key d, m) ∷ []) same)

-- at success more holds
pub on_ok : {T E P Q : Type 0} (r : Result T E) → (P → Q) → OnOk r P → OnOk r Q
on_ok (Ok x) f h = f h
on_ok (Err e) f h = tt

pub on_both : {T E P Q R : Type 0} (r : Result T E) → (P → Q → R) → OnOk r P → OnOk r Q → OnOk r R
on_both (Ok x) f h g = f h g
on_both (Err e) f h g = tt

-- what is put in, as the keys show it
pub insert_shown : {A K X : Type 0} (same : K → K → Bool) (shown : A → K) (es : List (A × X)) (a : A) (v : X)
    → map (λ e. (shown e.0, e.1)) (insert_entry (λ x y. same (shown x) (shown y)) es a v) ≡
    insert_entry same (map (λ e. (shown e.0, e.1)) es) (shown a) v
insert_shown same shown [] a v = refl
insert_shown {A} {K} {X} same shown (e ∷ es) a v = by (same (shown a) (shown e.0)) (insert_shown same shown es a v)
  where
    show : List (A × X) → List (K × X)
    show = map (λ e. (shown e.0, e.1))

    by : (b : Bool)
        → show (insert_entry (λ x y. same (shown x) (shown y)) es a v) ≡ insert_entry same (show es) (shown a) v
        → show (cond b ((e.0, v) ∷ es) (e ∷ insert_entry (λ x y. same (shown x) (shown y)) es a v))
        ≡ cond b ((shown e.0, v) ∷ show es) ((shown e.0, e.1) ∷ insert_entry same (show es) (shown a) v)
    by true rest = refl
    by false rest = ap (λ r. (shown e.0, e.1) ∷ r) rest

module _ {D K : Type 0} (same : K → K → Bool) (key : D → K) where
  -- a new key goes last
  pub goes_last : (es : List (K × ℕ)) (k : K) (v : ℕ) → lookup (same k) es ≡ None
      → insert_entry same es k v ≡ es ++ (k, v) ∷ []
  goes_last [] k v none = refl
  goes_last (e ∷ es) k v none = by (same k e.0) none (goes_last es k v)
    where
      by : (b : Bool) → cond b (Some e.1) (lookup (same k) es) ≡ None
          → (lookup (same k) es ≡ None → insert_entry same es k v ≡ es ++ (k, v) ∷ [])
          → cond b ((e.0, v) ∷ es) (e ∷ insert_entry same es k v) ≡ e ∷ es ++ (k, v) ∷ []
      by true none rest = absurd cc
      by false none rest = ap (λ r. e ∷ r) (rest none)

  -- an index after the next definition's key is put in
  pub one_more : (old new : List (K × ℕ)) (k : K) (v : ℕ) (ds : List D) (d : D) → old ≡ places key 0 ds
      → new ≡ insert_entry same old k v
      → list_any (λ e. same (key d) (key e)) ds ≡ false → v ≡ length ds → k ≡ key d → new ≡ places key 0 (ds ++ d ∷ [])
  one_more old new k v ds d had put fresh last named =
      let new_key : list_any (λ e. same k (key e)) ds ≡ false = subst
      (λ (x : K). list_any (λ e. same x (key e)) ds ≡ false) (sym named) fresh in
      let none : lookup (same k) old ≡ None = ap (lookup (same k)) had ∙ absent (same k) key 0 ds new_key in
      let behind : new ≡ places key 0 ds ++ (k, v) ∷ [] = put ∙ goes_last old k v none ∙ ap
      (λ es. es ++ (k, v) ∷ []) had in
      let at_end : v ≡ 0 + length ds = omega arith in
      let pair : (k, v) ∷ [] ≡ (key d, 0 + length ds) ∷ [] = λ i. (named i, at_end i) ∷ [] in
      behind ∙ ap (λ p. places key 0 ds ++ p) pair ∙ sym (places-append key 0 ds d)
