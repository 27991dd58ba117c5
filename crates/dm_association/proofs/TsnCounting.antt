-- How many octets wait, where TSNs change.
use Rattle.std.proofs.Common.{◌≡◌, ◌≢◌, ◌≤◌, ◌<◌, ◌⊎◌, inl, inr, ℕ, zero, suc, ◌+◌, eqb, nat_le, nat_lt, ◌&&◌, true, false, List, [], ◌∷◌, ◌++◌, length, replicate, slice_set, refl, sym, ◌∙◌, ap, arith, length-append, add-zero, if◌then◌else◌}
use Rattle.std.proofs.lemmas.Bool.{cases_lt}
use Rattle.std.proofs.lemmas.Bool.Decides.{eqb_tells, nat_tests}
use Rattle.std.proofs.lemmas.List.Sums.{sum_by-cons, sum_by-append}
use Rattle.dm_association.specs.declared.tsn_state.TsnState.{TsnState}
use Rattle.dm_association.specs.declared.tsn_state.TsnState.TheVariants.{Missing, Done, Held}
use Rattle.dm_association.specs.Fragments.{FragmentState, user_message}
use Rattle.dm_association.specs.TsnWindows.{TsnWindowState, tsn_at, slot_octets, waiting_octets, octets_with, PassesFront, AreDone, FinishesTsns, CompletesMessage, PutsFragment}
use Rattle.dm_association.proofs.TsnLists.{with_tsn, with_here, with_other, chosen_yes, chosen_no}
use Rattle.dm_association.proofs.MessageRuns.{differ, same}

-- how many octets wait at a TSN
abbrev size_of : TsnState → ℕ
size_of state = length (slot_octets state)

pub waiting_cons : (x : TsnState) (tsns : List TsnState) →
    waiting_octets (x ∷ tsns) ≡ size_of x + waiting_octets tsns
waiting_cons x tsns = sum_by-cons (λ (state : TsnState). length (slot_octets state)) x tsns

pub waiting_both : (tsns more : List TsnState) →
    waiting_octets (tsns ++ more) ≡ waiting_octets tsns + waiting_octets more
waiting_both tsns more = sum_by-append (λ (state : TsnState). length (slot_octets state)) tsns more

-- the same TSNs have as many
none_waits : (g : List TsnState) → ((k : ℕ) → tsn_at g k ≡ Missing) → waiting_octets g ≡ 0
none_waits [] h = refl
none_waits (y ∷ g) h =
    let rest = none_waits g (λ k. h (suc k)) in
    let first : size_of y ≡ 0 = ap size_of (h 0) in
    let all = waiting_cons y g in
    omega (arith, rest, first, all)

pub same_waiting : (f g : List TsnState) → ((k : ℕ) → tsn_at f k ≡ tsn_at g k) → waiting_octets f ≡ waiting_octets g
same_waiting [] g h = sym (none_waits g (λ k. sym (h k)))
same_waiting (x ∷ f) [] h = none_waits (x ∷ f) h
same_waiting (x ∷ f) (y ∷ g) h =
    let rest = same_waiting f g (λ k. h (suc k)) in
    let first : size_of x ≡ size_of y = ap size_of (h 0) in
    let one = waiting_cons x f in
    let other = waiting_cons y g in
    omega (arith, rest, first, one, other)

-- one is changed
pub waiting_with : (tsns : List TsnState) (k : ℕ) (x : TsnState) →
    waiting_octets (with_tsn tsns k x) + size_of (tsn_at tsns k) ≡ waiting_octets tsns + size_of x
waiting_with [] zero x = let one = waiting_cons x [] in omega (arith, one)
waiting_with (y ∷ tsns) zero x =
    let one = waiting_cons x tsns in
    let other = waiting_cons y tsns in
    omega (arith, one, other)
waiting_with [] (suc k) x =
    let rest = waiting_with [] k x in
    let one = waiting_cons Missing (with_tsn [] k x) in
    omega (arith, rest, one)
waiting_with (y ∷ tsns) (suc k) x =
    let rest = waiting_with tsns k x in
    let one = waiting_cons y (with_tsn tsns k x) in
    let other = waiting_cons y tsns in
    omega (arith, rest, one, other)

pub waiting_set : (tsns : List TsnState) (k : ℕ) (x : TsnState) → k < length tsns →
    waiting_octets (slice_set tsns k x) + size_of (tsn_at tsns k) ≡ waiting_octets tsns + size_of x
waiting_set [] k x h = absurd (omega arith)
waiting_set (y ∷ tsns) zero x h =
    let one = waiting_cons x tsns in
    let other = waiting_cons y tsns in
    omega (arith, one, other)
waiting_set (y ∷ tsns) (suc k) x h =
    let rest = waiting_set tsns k x (omega arith) in
    let one = waiting_cons y (slice_set tsns k x) in
    let other = waiting_cons y tsns in
    omega (arith, rest, one, other)

-- nothing waits where TSNs are missing or done
pub missing_wait : (n : ℕ) → waiting_octets (replicate n Missing) ≡ 0
missing_wait zero = refl
missing_wait (suc n) =
    let rest = missing_wait n in
    let all = waiting_cons Missing (replicate n Missing) in
    omega (arith, rest, all)

pub done_wait : (n : ℕ) → waiting_octets (replicate n Done) ≡ 0
done_wait zero = refl
done_wait (suc n) =
    let rest = done_wait n in
    let all = waiting_cons Done (replicate n Done) in
    omega (arith, rest, all)

pub front_waits : (old new : TsnWindowState) → PassesFront old new →
    waiting_octets old.tsns ≡ waiting_octets new.tsns
front_waits old new h =
    let all = waiting_both (replicate h.count Done) new.tsns in
    let none = done_wait h.count in
    let said = ap waiting_octets h.tsns in
    omega (arith, all, none, said)

-- a fragment is put where none was
put_at : (tsns : List TsnState) (at : ℕ) (chunk : FragmentState) (k : ℕ) →
    (if eqb k at then Held chunk else tsn_at tsns k) ≡ tsn_at (with_tsn tsns at (Held chunk)) k
put_at tsns at chunk k = elim (eqb_tells k at) [
  | inl is_it ↦
      chosen_yes (eqb k at) (Held chunk) (tsn_at tsns k) is_it.0
      ∙ sym (with_here tsns at (Held chunk)) ∙ ap (λ n. tsn_at (with_tsn tsns at (Held chunk)) n) (sym is_it.1)
  | inr not_it ↦
      chosen_no (eqb k at) (Held chunk) (tsn_at tsns k) not_it.0
      ∙ sym (with_other tsns at (Held chunk) k not_it.1)
]

pub fragment_waits : (old new : TsnWindowState) (at : ℕ) (chunk : FragmentState) → PutsFragment old at chunk new →
    size_of (tsn_at old.tsns at) ≡ 0 →
    waiting_octets new.tsns ≡ waiting_octets old.tsns + length chunk.octets
fragment_waits old new at chunk h none =
    let with = waiting_with old.tsns at (Held chunk) in
    let all = same_waiting new.tsns (with_tsn old.tsns at (Held chunk)) (λ k. h.each k ∙ put_at old.tsns at chunk k) in
    omega (arith, with, all, none)

-- TSNs that are done, one by one
abbrev done_from : List TsnState → ℕ → ℕ → List TsnState
done_from tsns first zero = tsns
done_from tsns first (suc n) = with_tsn (done_from tsns first n) (first + n) Done

done_outside : (tsns : List TsnState) (first n k : ℕ) → (k < first) ⊎ (first + n ≤ k) →
    tsn_at (done_from tsns first n) k ≡ tsn_at tsns k
done_outside tsns first zero k h = refl
done_outside tsns first (suc n) k (inl h) =
    with_other (done_from tsns first n) (first + n) Done k (λ e. omega (arith, h))
    ∙ done_outside tsns first n k (inl h)
done_outside tsns first (suc n) k (inr h) =
    with_other (done_from tsns first n) (first + n) Done k (λ e. omega (arith, h))
    ∙ done_outside tsns first n k (inr (omega (arith, h)))

done_inside : (tsns : List TsnState) (first n k : ℕ) → first ≤ k → k < first + n →
    tsn_at (done_from tsns first n) k ≡ Done
done_inside tsns first zero k low high = absurd (omega arith)
done_inside tsns first (suc n) k low high = elim (eqb_tells k (first + n)) [
  | inl is_it ↦
      ap (λ j. tsn_at (done_from tsns first (suc n)) j) is_it.1
      ∙ with_here (done_from tsns first n) (first + n) Done
  | inr not_it ↦
      with_other (done_from tsns first n) (first + n) Done k not_it.1
      ∙ done_inside tsns first n k low (omega (arith, not_it.1))
]

pub is_among : (first count k : ℕ) → first ≤ k → k < first + count → (nat_le first k && nat_lt k (first + count)) ≡ true
is_among first count k low high = grind (arith, nat_tests)

pub is_before : (first count k : ℕ) → k < first → (nat_le first k && nat_lt k (first + count)) ≡ false
is_before first count k low = grind (arith, nat_tests)

pub is_behind : (first count k : ℕ) → first + count ≤ k → (nat_le first k && nat_lt k (first + count)) ≡ false
is_behind first count k high = grind (arith, nat_tests)

are_from : (old : List TsnState) (first count : ℕ) (new : List TsnState) → AreDone old first count new → (k : ℕ) →
    tsn_at new k ≡ tsn_at (done_from old first count) k
are_from old first count new h k = elim (cases_lt k first) [
  | inl less ↦
      h.each k ∙ chosen_no _ Done (tsn_at old k) (is_before first count k less)
      ∙ sym (done_outside old first count k (inl less))
  | inr low ↦ elim (cases_lt k (first + count)) [
    | inl high ↦
        h.each k ∙ chosen_yes _ Done (tsn_at old k) (is_among first count k low high)
        ∙ sym (done_inside old first count k low high)
    | inr more ↦
        h.each k ∙ chosen_no _ Done (tsn_at old k) (is_behind first count k more)
        ∙ sym (done_outside old first count k (inr more))
  ]
]

-- what they had was the octets that waited there
abbrev held_at : List TsnState → ℕ → List ℕ
held_at tsns k = slot_octets (tsn_at tsns k)

from_wait : (tsns : List TsnState) (first n : ℕ) →
    waiting_octets (done_from tsns first n) + length (user_message (held_at tsns) first n) ≡ waiting_octets tsns
from_wait tsns first zero = omega arith
from_wait tsns first (suc n) =
    let rest = from_wait tsns first n in
    let one = waiting_with (done_from tsns first n) (first + n) Done in
    let there : size_of (tsn_at (done_from tsns first n) (first + n)) ≡ length (held_at tsns (first + n)) =
    ap size_of (done_outside tsns first n (first + n) (inr (omega arith))) in
    let both = length-append (user_message (held_at tsns) first n) (held_at tsns (first + n)) in
    omega (arith, rest, one, there, both)

pub done_waits : (old : List TsnState) (first count : ℕ) (new : List TsnState) → AreDone old first count new →
    waiting_octets new + length (user_message (held_at old) first count) ≡ waiting_octets old
done_waits old first count new h =
    let all = same_waiting new (done_from old first count) (are_from old first count new h) in
    let from = from_wait old first count in
    omega (arith, all, from)

-- a chunk among others: its octets come on top
not_among : (first n at : ℕ) → (at < first) ⊎ (first + suc n ≤ at) → (at < first) ⊎ (first + n ≤ at)
not_among first n at (inl h) = inl h
not_among first n at (inr h) = inr (omega (arith, h))

not_at : (first n at : ℕ) → (at < first) ⊎ (first + suc n ≤ at) → first + n ≢ at
not_at first n at (inl h) e = omega (arith, h)
not_at first n at (inr h) e = omega (arith, h)

without_own : (tsns : List TsnState) (at : ℕ) (own : List ℕ) (first n : ℕ) → (at < first) ⊎ (first + n ≤ at) →
    length (user_message (octets_with tsns at own) first n) ≡ length (user_message (held_at tsns) first n)
without_own tsns at own first zero h = refl
without_own tsns at own first (suc n) h =
    let rest = without_own tsns at own first n (not_among first n at h) in
    let one = length-append (user_message (octets_with tsns at own) first n) (octets_with tsns at own (first + n)) in
    let other = length-append (user_message (held_at tsns) first n) (held_at tsns (first + n)) in
    let there = ap length (chosen_no (eqb (first + n) at) own (held_at tsns (first + n))
    (differ (first + n) at (not_at first n at h))) in
    omega (arith, rest, one, other, there)

pub with_own : (tsns : List TsnState) (at : ℕ) (own : List ℕ) (first n : ℕ) → first ≤ at → at < first + n →
    size_of (tsn_at tsns at) ≡ 0 →
    length (user_message (octets_with tsns at own) first n)
    ≡ length (user_message (held_at tsns) first n) + length own
with_own tsns at own first zero low high none = absurd (omega arith)
with_own tsns at own first (suc n) low high none =
    let one = length-append (user_message (octets_with tsns at own) first n) (octets_with tsns at own (first + n)) in
    let other = length-append (user_message (held_at tsns) first n) (held_at tsns (first + n)) in
    elim (eqb_tells at (first + n)) [
      | inl is_it ↦
          let rest = without_own tsns at own first n (inr (omega (arith, is_it.1))) in
          let here = ap length (chosen_yes (eqb (first + n) at) own (held_at tsns (first + n))
          (same (first + n) at (sym is_it.1))) in
          let was : length (held_at tsns (first + n)) ≡ 0 = ap (λ k. length (held_at tsns k)) (sym is_it.1) ∙ none in
          omega (arith, one, other, rest, here, was)
      | inr not_it ↦
          let rest = with_own tsns at own first n low (omega (arith, not_it.1)) none in
          let there = ap length (chosen_no (eqb (first + n) at) own (held_at tsns (first + n))
          (differ (first + n) at (λ e. not_it.1 (sym e)))) in
          omega (arith, one, other, rest, there)
    ]

-- what waited, and a chunk, is in the message or waits still
pub message_waits : (old new : TsnWindowState) (at : ℕ) (chunk : FragmentState) (message : List ℕ) →
    CompletesMessage old at chunk message new → size_of (tsn_at old.tsns at) ≡ 0 →
    waiting_octets new.tsns + length message ≡ waiting_octets old.tsns + length chunk.octets
message_waits old new at chunk message h none =
    let own = with_own old.tsns at chunk.octets h.first h.count h.before h.behind none in
    let done = done_waits old.tsns h.first h.count h.finishes.mid h.finishes.done in
    let front = front_waits (record old { tsns = h.finishes.mid }) new h.finishes.passes.passes in
    let said = ap length h.says in
    omega (arith, own, done, front, said)

-- a chunk that isn't kept changes nothing
pub pass_waits : (old new : TsnWindowState) (at : ℕ) → FinishesTsns old at 1 new → size_of (tsn_at old.tsns at) ≡ 0 →
    waiting_octets new.tsns ≡ waiting_octets old.tsns
pass_waits old new at h none =
    let done = done_waits old.tsns at 1 h.mid h.done in
    let front = front_waits (record old { tsns = h.mid }) new h.passes.passes in
    let here : length (user_message (held_at old.tsns) at 1) ≡ 0 =
    ap (λ k. length (held_at old.tsns k)) (add-zero at) ∙ none in
    omega (arith, done, front, here)
