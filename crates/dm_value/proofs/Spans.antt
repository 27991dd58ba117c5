-- The year, or the month, in which a day lies.
use Rattle.std.proofs.Common.{◌≡◌, ◌<◌, ◌≤◌, ◌+◌, ◌-◌, ℕ, zero, suc, Bool, true, false, cond, nat_lt, refl, sym, ap, ◌∙◌, arith}
use Rattle.std.proofs.lemmas.Bool.{lt-ltb, le-ltb, ltb-true, ltb-false}
use Rattle.dm_value.specs.Dates.{span_at, days_in}

pub span_here : (days : ℕ → ℕ) (more first n length : ℕ)
    → length ≡ days first → n < length → (first, n) ≡ span_at days more first n
unfolding span_at
span_here days zero first n length e h = refl
span_here days (suc more) first n length e h =
    let further = span_at days more (first + 1) (n - days first) in
    sym (ap (λ b. cond b (first, n) further) (lt-ltb n (days first) (rw (← e) h)))

-- behind a year, or a month, that the day isn't in
pub span_behind : (days : ℕ → ℕ) (more first n : ℕ) → days first ≤ n
    → span_at days (suc more) first n ≡ span_at days more (first + 1) (n - days first)
unfolding span_at
span_behind days more first n h =
    ap (λ b. cond b (first, n) (span_at days more (first + 1) (n - days first))) (le-ltb n (days first) h)

pub span_passed : (days : ℕ → ℕ) (end first n length : ℕ) (answer : ℕ × ℕ)
    → length ≡ days first → length ≤ n → first < end
    → span_at days (end - first) first n ≡ answer → span_at days (end - (first + 1)) (first + 1) (n - length) ≡ answer
span_passed days end first n length answer e h below known =
    let one : end - first ≡ suc (end - (first + 1)) = omega arith in
    let behind = span_behind days (end - (first + 1)) first n (rw (← e) h) in
    rw e (sym behind ∙ ap (λ k. span_at days k first n) (sym one) ∙ known)

-- where the last one is reached
pub span_last : (days : ℕ → ℕ) (end first n : ℕ) (answer : ℕ × ℕ) → first ≡ end
    → span_at days (end - first) first n ≡ answer → (end, n) ≡ answer
unfolding span_at
span_last days end first n answer e known =
    let none : end - first ≡ 0 = omega arith in
    ap (λ k. (k, n)) (sym e) ∙ ap (λ k. span_at days k first n) (sym none) ∙ known

-- what a place (a year with its days, a month with its days) says of day n behind the first day of the first one
pub record IsPlace (days : ℕ → ℕ) (more first n : ℕ) (place : ℕ × ℕ) : Type 0 where
  pub least : first ≤ place.0
  pub most : place.0 ≤ first + more
  pub whole : n ≡ days_in days first (place.0 - first) + place.1
  pub within : n < days_in days first (suc more) → place.1 < days place.0

here : (days : ℕ → ℕ) (more first n : ℕ)
    → (n < days_in days first (suc more) → n < days first) → IsPlace days more first n (first, n)
unfolding days_in
here days more first n within =
    let none : first - first ≡ 0 = omega arith in
    let nothing : days_in days first (first - first) ≡ 0 = ap (days_in days first) none in
    record { least = omega arith; most = omega arith; whole = omega arith; within = within }

further : (days : ℕ → ℕ) (more first n : ℕ) (place : ℕ × ℕ)
    → days first ≤ n → IsPlace days more (first + 1) (n - days first) place
    → IsPlace days (suc more) first n place
unfolding days_in
further days more first n place h p =
    let least : first + 1 ≤ place.0 = p.least in
    let most : place.0 ≤ first + 1 + more = p.most in
    let whole : n - days first ≡ days_in days (first + 1) (place.0 - (first + 1)) + place.1 = p.whole in
    let one : place.0 - first ≡ suc (place.0 - (first + 1)) = omega arith in
    record {
      least = omega arith;
      most = omega arith;
      whole = rw one (omega arith);
      within = λ h2. p.within (omega arith);
    }

pub placed : (days : ℕ → ℕ) (more first n : ℕ) → IsPlace days more first n (span_at days more first n)
unfolding span_at days_in
placed days zero first n = here days zero first n (λ h. omega arith)
placed days (suc more) first n = by (nat_lt n (days first)) refl (placed days more (first + 1) (n - days first))
  where
    by : (b : Bool) → nat_lt n (days first) ≡ b
        → IsPlace days more (first + 1) (n - days first) (span_at days more (first + 1) (n - days first))
        → IsPlace days (suc more) first n (cond b (first, n) (span_at days more (first + 1) (n - days first)))
    by true is p = here days (suc more) first n (λ h. ltb-true n (days first) is)
    by false is p = further days more first n _ (ltb-false n (days first) is) p
