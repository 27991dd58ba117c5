-- The place of each number, as the values come one by one.
use Rattle.std.proofs.Common.{◌≡◌, ℤ, ℕ, suc, ◌+◌, ◌<◌, Bool, true, false, cond, Option, None, Some, is_some, List, [], ◌∷◌, ◌++◌, take, length, get_or, refl, sym, ap, ◌∙◌, add-one, arith}
use Rattle.std.proofs.Math.Nat.{add-zero}
use Rattle.std.proofs.Math.Seq.{take-suc}
use Rattle.std.proofs.lemmas.List.{length-take-le}
use Rattle.std.proofs.lemmas.Cmp.{int_eq_equiv}
use Rattle.std.specs.List.{position_from}
use Rattle.std.specs.Map.{lookup}
use Rattle.std.specs.Option.{option_or}
use Rattle.std.specs.Ordering.{int_eq}
use Rattle.indexmap.specs.IndexMap.{insert_entry}
use Rattle.dm_tables.specs.declared.values.EnumValue.{EnumValue}
use Rattle.dm_tables.specs.Listed.{has_number}
use Rattle.dm_tables.specs.Numbered.{with_place}
use Rattle.dm_tables.proofs.Places.{goes_last}

-- the place of one behind the others
pub place_last : {D : Type 0} (p : D → Bool) (i : ℕ) (ds : List D) (d : D)
    → position_from p i (ds ++ d ∷ []) ≡ option_or (position_from p i ds) (cond (p d) (Some (i + length ds)) None)
place_last p i [] d = rw (add-zero i) refl
place_last p i (e ∷ ds) d = by (p e) (place_last p (i + 1) ds d)
  where
    same : i + 1 + length ds ≡ i + suc (length ds)
    same = omega arith

    by : (b : Bool)
        → position_from p (i + 1) (ds ++ d ∷ [])
        ≡ option_or (position_from p (i + 1) ds) (cond (p d) (Some (i + 1 + length ds)) None)
        → cond b (Some i) (position_from p (i + 1) (ds ++ d ∷ []))
        ≡ option_or (cond b (Some i) (position_from p (i + 1) ds)) (cond (p d) (Some (i + suc (length ds))) None)
    by true rest = refl
    by false rest = rest ∙ ap (λ m. option_or (position_from p (i + 1) ds) (cond (p d) (Some m) None)) same

look_last : {K X : Type 0} (test : K → Bool) (es : List (K × X)) (k : K) (v : X)
    → lookup test (es ++ (k, v) ∷ []) ≡ option_or (lookup test es) (cond (test k) (Some v) None)
look_last test [] k v = refl
look_last test (e ∷ es) k v = by (test e.0) (look_last test es k v)
  where
    by : (b : Bool) → lookup test (es ++ (k, v) ∷ []) ≡ option_or (lookup test es) (cond (test k) (Some v) None)
        → cond b (Some e.1) (lookup test (es ++ (k, v) ∷ []))
        ≡ option_or (cond b (Some e.1) (lookup test es)) (cond (test k) (Some v) None)
    by true rest = refl
    by false rest = rest

or_none : {X : Type 0} (o : Option X) → o ≡ option_or o None
or_none None = refl
or_none (Some x) = refl

-- what stands under a number, after a place is put under one
look_noted : (es : List (ℤ × ℕ)) (k : ℤ) (v : ℕ) (n : ℤ)
    → lookup (int_eq n) (with_place es k v) ≡ option_or (lookup (int_eq n) es) (cond (int_eq n k) (Some v) None)
look_noted es k v n = by (lookup (int_eq k) es) refl
  where
    there : (x : ℕ) → lookup (int_eq k) es ≡ Some x → (b : Bool) → int_eq n k ≡ b
        → lookup (int_eq n) es ≡ option_or (lookup (int_eq n) es) (cond b (Some v) None)
    there x e false g = or_none (lookup (int_eq n) es)
    there x e true g =
        let found : lookup (int_eq n) es ≡ Some x = (λ i. lookup (λ y. int_eq_equiv.congr n k y g i) es) ∙ e in
        rw found refl

    by : (o : Option ℕ) → lookup (int_eq k) es ≡ o
        → lookup (int_eq n) (cond (is_some o) es (insert_entry int_eq es k v))
        ≡ option_or (lookup (int_eq n) es) (cond (int_eq n k) (Some v) None)
    by (Some x) e = there x e (int_eq n k) refl
    by None e = ap (lookup (int_eq n)) (goes_last int_eq (λ d. d) es k v e) ∙ look_last (int_eq n) es k v

pub place_noted : (values : List EnumValue) (i : ℕ) (d v : EnumValue) (old new : List (ℤ × ℕ)) (n : ℤ) (place : ℕ)
    → i < length values → place ≡ i → v ≡ get_or values i d
    → lookup (int_eq n) old ≡ position_from (has_number n) 0 (take i values)
    → new ≡ with_place old v.number place
    → lookup (int_eq n) new ≡ position_from (has_number n) 0 (take (i + 1) values)
place_noted values i d v old new n place h here at had put =
    let more : take (i + 1) values ≡ take i values ++ get_or values i d ∷ [] = rw (add-one i) (take-suc values i d h) in
    let size : place ≡ 0 + length (take i values) = here ∙ sym (length-take-le i values (omega arith)) ∙ omega arith in
    ap (lookup (int_eq n)) put ∙ look_noted old v.number place n
    ∙ (λ j. option_or (had j) (cond (int_eq n (at j).number) (Some (size j)) None))
    ∙ sym (place_last (has_number n) 0 (take i values) (get_or values i d))
    ∙ ap (position_from (has_number n) 0) (sym more)
