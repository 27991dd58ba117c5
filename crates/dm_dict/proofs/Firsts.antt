-- A definition with a key of its own is the first that has it.
use Rattle.std.proofs.Common.{◌≡◌, ℕ, zero, suc, ◌+◌, Bool, true, false, ◌||◌, Some, List, [], ◌∷◌, ◌++◌, slice_get, refl, sym, ◌∙◌, ap, arith}
use Rattle.std.proofs.lemmas.Bool.{and_parts}
use Rattle.std.proofs.lemmas.List.Folds.{list_any-append}
use Rattle.std.specs.List.{list_any, position_from}
use Rattle.dm_tables.specs.Sound.{each_after}

neither : (a b : Bool) → a || (b || false) ≡ false → (a ≡ false) × (b ≡ false)
neither true b h = absurd (cc)
neither false true h = absurd (cc)
neither false false h = (refl, refl)

-- a later definition has no key of those before
new_later : {D : Type 0} (test : List D → D → Bool) (has : D → D → Bool)
    → ((before : List D) (d : D) → test before d ≡ true → list_any (has d) before ≡ false)
    → (before ds : List D) (i : ℕ) (d : D) → each_after test before ds ≡ true → slice_get ds i ≡ Some d
    → list_any (has d) before ≡ false
new_later test has new before [] i d h at = absurd (cc)
new_later test has new before (x ∷ ds) zero d h at =
    let (here, rest) = and_parts (test before x) (each_after test (before ++ x ∷ []) ds) h in
    let same : x ≡ d = cc in
    rw same at (new before x here)
new_later test has new before (x ∷ ds) (suc i) d h at =
    let (here, rest) = and_parts (test before x) (each_after test (before ++ x ∷ []) ds) h in
    let later = new_later test has new (before ++ x ∷ []) ds i d rest at in
    (neither _ (has d x) (sym (list_any-append (has d) before (x ∷ [])) ∙ later)).0

first_from : {D : Type 0} (test : List D → D → Bool) (has : D → D → Bool)
    → ((before : List D) (d : D) → test before d ≡ true → list_any (has d) before ≡ false)
    → ((d : D) → has d d ≡ true) → (before ds : List D) (j i : ℕ) (d : D) → each_after test before ds ≡ true
    → slice_get ds i ≡ Some d → position_from (has d) j ds ≡ Some (j + i)
first_from test has new own before [] j i d h at = absurd (cc)
first_from test has new own before (x ∷ ds) j zero d h at =
    let same : x ≡ d = cc in
    let here : has d x ≡ true = rw same (own d) in
    let start : j ≡ j + 0 = omega arith in
    rw here (ap Some start)
first_from test has new own before (x ∷ ds) j (suc i) d h at =
    let (here, rest) = and_parts (test before x) (each_after test (before ++ x ∷ []) ds) h in
    let later = new_later test has new (before ++ x ∷ []) ds i d rest at in
    let other : has d x ≡ false = (neither (list_any (has d) before) (has d x)
    (sym (list_any-append (has d) before (x ∷ [])) ∙ later)).1 in
    let next : j + 1 + i ≡ j + suc i = omega arith in
    rw other (first_from test has new own (before ++ x ∷ []) ds (j + 1) i d rest at ∙ ap Some next)

pub first_place : {D : Type 0} (test : List D → D → Bool) (has : D → D → Bool)
    → ((before : List D) (d : D) → test before d ≡ true → list_any (has d) before ≡ false)
    → ((d : D) → has d d ≡ true) → (ds : List D) (i : ℕ) (d : D) → each_after test [] ds ≡ true
    → slice_get ds i ≡ Some d → position_from (has d) 0 ds ≡ Some i
first_place test has new own ds i d h at =
    let start : 0 + i ≡ i = omega arith in
    first_from test has new own [] ds 0 i d h at ∙ ap Some start
