-- What came of TSNs, one by one.
use Rattle.std.proofs.Common.{◌≡◌, ◌≢◌, ◌≤◌, ◌<◌, ◌⊎◌, ℕ, zero, suc, eqb, Bool, true, false, if◌then◌else◌, List, [], ◌∷◌, ◌++◌, length, replicate, slice_set, refl, ap, arith}
use Rattle.std.proofs.lemmas.Bool.Decides.{eqb_tells}
use Rattle.dm_association.specs.declared.tsn_state.TsnState.{TsnState}
use Rattle.dm_association.specs.declared.tsn_state.TsnState.TheVariants.{Missing}
use Rattle.dm_association.specs.TsnWindows.{tsn_at}

-- past the end nothing came
pub at_past : (tsns : List TsnState) (k : ℕ) → length tsns ≤ k → tsn_at tsns k ≡ Missing
at_past [] k h = refl
at_past (x ∷ tsns) zero h = absurd (omega arith)
at_past (x ∷ tsns) (suc k) h = at_past tsns k (omega arith)

-- a list with a TSN changed, which may be past its end
abbrev pub with_tsn : List TsnState → ℕ → TsnState → List TsnState
with_tsn [] zero x = x ∷ []
with_tsn (y ∷ tsns) zero x = x ∷ tsns
with_tsn [] (suc k) x = Missing ∷ with_tsn [] k x
with_tsn (y ∷ tsns) (suc k) x = y ∷ with_tsn tsns k x

pub with_here : (tsns : List TsnState) (k : ℕ) (x : TsnState) → tsn_at (with_tsn tsns k x) k ≡ x
with_here [] zero x = refl
with_here (y ∷ tsns) zero x = refl
with_here [] (suc k) x = with_here [] k x
with_here (y ∷ tsns) (suc k) x = with_here tsns k x

pub with_other : (tsns : List TsnState) (k : ℕ) (x : TsnState) (j : ℕ) → j ≢ k →
    tsn_at (with_tsn tsns k x) j ≡ tsn_at tsns j
with_other [] zero x zero h = absurd (h refl)
with_other [] zero x (suc j) h = refl
with_other (y ∷ tsns) zero x zero h = absurd (h refl)
with_other (y ∷ tsns) zero x (suc j) h = refl
with_other [] (suc k) x zero h = refl
with_other [] (suc k) x (suc j) h = with_other [] k x j (λ e. h (ap suc e))
with_other (y ∷ tsns) (suc k) x zero h = refl
with_other (y ∷ tsns) (suc k) x (suc j) h = with_other tsns k x j (λ e. h (ap suc e))

-- the same within the list
pub set_here : (tsns : List TsnState) (k : ℕ) (x : TsnState) → k < length tsns → tsn_at (slice_set tsns k x) k ≡ x
set_here [] k x h = absurd (omega arith)
set_here (y ∷ tsns) zero x h = refl
set_here (y ∷ tsns) (suc k) x h = set_here tsns k x (omega arith)

pub set_other : (tsns : List TsnState) (k : ℕ) (x : TsnState) (j : ℕ) → j ≢ k →
    tsn_at (slice_set tsns k x) j ≡ tsn_at tsns j
set_other [] k x j h = refl
set_other (y ∷ tsns) zero x zero h = absurd (h refl)
set_other (y ∷ tsns) zero x (suc j) h = refl
set_other (y ∷ tsns) (suc k) x zero h = refl
set_other (y ∷ tsns) (suc k) x (suc j) h = set_other tsns k x j (λ e. h (ap suc e))

-- missing ones at the end change nothing
pub at_grown : (tsns : List TsnState) (n k : ℕ) → tsn_at (tsns ++ replicate n Missing) k ≡ tsn_at tsns k
at_grown [] zero k = refl
at_grown [] (suc n) zero = refl
at_grown [] (suc n) (suc k) = at_grown [] n k
at_grown (x ∷ tsns) n zero = refl
at_grown (x ∷ tsns) n (suc k) = at_grown tsns n k

-- of two values one is chosen
pub chosen_yes : {X : Type 0} (b : Bool) (x y : X) → b ≡ true → (if b then x else y) ≡ x
chosen_yes true x y e = refl
chosen_yes false x y e = cc

pub chosen_no : {X : Type 0} (b : Bool) (x y : X) → b ≡ false → (if b then x else y) ≡ y
chosen_no true x y e = cc
chosen_no false x y e = refl

pub same_tells : (k at : ℕ) → ((eqb k at ≡ true) × (k ≡ at)) ⊎ ((eqb k at ≡ false) × (k ≢ at))
same_tells k at = eqb_tells k at
