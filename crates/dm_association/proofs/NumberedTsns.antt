-- What is kept of a number, where the first that isn't done has another one.
use Rattle.std.proofs.Common.{◌≡◌, ◌≢◌, ◌≤◌, ◌<◌, ◌⊎◌, inl, inr, ℕ, zero, suc, ◌+◌, ◌-◌, ◌%◌, ◌^◌, max, nat_lt, eqb, if◌then◌else◌, false, Option, None, Some, List, ◌++◌, length, replicate, refl, sym, ◌∙◌, ap, arith, length-append}
use Rattle.std.proofs.lemmas.Bool.{cases_lt, lt-ltb, le-ltb}
use Rattle.std.proofs.lemmas.Bool.Decides.{eqb_tells, nat_tests}
use Rattle.std.proofs.lemmas.List.{length-replicate}
use Rattle.dm_flows.specs.Order.{number_near}
use Rattle.dm_flows.specs.Windows.{ahead, sequence_behind}
use Rattle.dm_association.specs.declared.marks.ChunkMarks.{ChunkMarks}
use Rattle.dm_association.specs.declared.tsn_state.TsnState.{TsnState}
use Rattle.dm_association.specs.declared.tsn_state.TsnState.TheVariants.{Done, Held}
use Rattle.dm_association.specs.Fragments.{FragmentState, marks_in_message, IsUserMessage, user_message}
use Rattle.dm_association.specs.Reassembly.{NumberedMessage}
use Rattle.dm_association.specs.TsnWindows.{TsnWindowState, tsn_at, held_marks, slot_octets, marks_with, octets_with, PassesFront, AreDone, PutsFragment, CompletesNone}
use Rattle.dm_association.proofs.MessageRuns.{held_within}
use Rattle.dm_association.proofs.Reassembly.{HasNumber, seen_with, octets_seen}
use Rattle.dm_association.proofs.TsnCounting.{is_among, is_before, is_behind}
use Rattle.dm_association.proofs.TsnLists.{chosen_yes, chosen_no}

abbrev pub state_of : ℕ → List TsnState → ℕ → TsnState
state_of n tsns k = if nat_lt k n then Done else tsn_at tsns (k - n)

pub state_before : (n : ℕ) (tsns : List TsnState) (k : ℕ) → k < n → state_of n tsns k ≡ Done
state_before n tsns k less = chosen_yes (nat_lt k n) Done (tsn_at tsns (k - n)) (lt-ltb k n less)

pub state_from : (n : ℕ) (tsns : List TsnState) (k : ℕ) → n ≤ k → state_of n tsns k ≡ tsn_at tsns (k - n)
state_from n tsns k low = chosen_no (nat_lt k n) Done (tsn_at tsns (k - n)) (le-ltb k n low)

-- those in front that are done go
front_at : (c : ℕ) (tsns : List TsnState) (j : ℕ) → j < c → tsn_at (replicate c Done ++ tsns) j ≡ Done
front_at zero tsns j h = absurd (omega arith)
front_at (suc c) tsns zero h = refl
front_at (suc c) tsns (suc j) h = front_at c tsns j (omega arith)

behind_at : (c : ℕ) (tsns : List TsnState) (j : ℕ) → c ≤ j → tsn_at (replicate c Done ++ tsns) j ≡ tsn_at tsns (j - c)
behind_at zero tsns j h = ap (λ n. tsn_at tsns n) (omega arith)
behind_at (suc c) tsns zero h = absurd (omega arith)
behind_at (suc c) tsns (suc j) h =
    behind_at c tsns j (omega arith) ∙ ap (λ n. tsn_at tsns n) (omega arith)

pub state_passed : (old new : TsnWindowState) (n : ℕ) (h : PassesFront old new) (k : ℕ) →
    state_of (n + h.count) new.tsns k ≡ state_of n old.tsns k
state_passed old new n h k = by (cases_lt k n) (cases_lt k (n + h.count))
  where
    by : (k < n) ⊎ (n ≤ k) → (k < n + h.count) ⊎ (n + h.count ≤ k) →
        state_of (n + h.count) new.tsns k ≡ state_of n old.tsns k
    by (inl less) any =
        state_before (n + h.count) new.tsns k (omega arith) ∙ sym (state_before n old.tsns k less)
    by (inr low) (inl less) =
        state_before (n + h.count) new.tsns k less
        ∙ sym (front_at h.count new.tsns (k - n) (omega arith))
        ∙ ap (λ l. tsn_at l (k - n)) (sym h.tsns) ∙ sym (state_from n old.tsns k low)
    by (inr low) (inr more) =
        let at : k - (n + h.count) ≡ k - n - h.count = omega arith in
        state_from (n + h.count) new.tsns k more ∙ ap (λ m. tsn_at new.tsns m) at
        ∙ sym (behind_at h.count new.tsns (k - n) (omega arith))
        ∙ ap (λ l. tsn_at l (k - n)) (sym h.tsns) ∙ sym (state_from n old.tsns k low)

pub state_done : (old mid : List TsnState) (n first count : ℕ) (h : AreDone old first count mid) (k : ℕ) →
    n + first ≤ k → k < n + first + count → state_of n mid k ≡ Done
state_done old mid n first count h k low high =
    state_from n mid k (omega arith) ∙ h.each (k - n)
    ∙ chosen_yes _ Done (tsn_at old (k - n)) (is_among first count (k - n) (omega arith) (omega arith))

pub state_undone : (old mid : List TsnState) (n first count : ℕ) (h : AreDone old first count mid) (k : ℕ) →
    (k < n + first) ⊎ (n + first + count ≤ k) → state_of n mid k ≡ state_of n old k
state_undone old mid n first count h k where_it = by (cases_lt k n) where_it
  where
    by : (k < n) ⊎ (n ≤ k) → (k < n + first) ⊎ (n + first + count ≤ k) → state_of n mid k ≡ state_of n old k
    by (inl less) any = state_before n mid k less ∙ sym (state_before n old k less)
    by (inr low) (inl less) =
        state_from n mid k low ∙ h.each (k - n)
        ∙ chosen_no _ Done (tsn_at old (k - n)) (is_before first count (k - n) (omega arith))
        ∙ sym (state_from n old k low)
    by (inr low) (inr more) =
        state_from n mid k low ∙ h.each (k - n)
        ∙ chosen_no _ Done (tsn_at old (k - n)) (is_behind first count (k - n) (omega arith))
        ∙ sym (state_from n old k low)

-- a fragment is put at a place
pub state_put : (old new : TsnWindowState) (n at : ℕ) (chunk : FragmentState) → PutsFragment old at chunk new →
    state_of n new.tsns (n + at) ≡ Held chunk
state_put old new n at chunk h =
    let here : n + at - n ≡ at = omega arith in
    state_from n new.tsns (n + at) (omega arith) ∙ ap (λ j. tsn_at new.tsns j) here ∙ h.each at
    ∙ chosen_yes (eqb at at) (Held chunk) (tsn_at old.tsns at) (grind (arith, nat_tests))

pub state_unput : (old new : TsnWindowState) (n at : ℕ) (chunk : FragmentState) → PutsFragment old at chunk new →
    (k : ℕ) → k ≢ n + at → state_of n new.tsns k ≡ state_of n old.tsns k
state_unput old new n at chunk h k not_it = by (cases_lt k n)
  where
    other : n ≤ k → eqb (k - n) at ≡ false
    other low =
        let away : k - n ≢ at = λ e. not_it (omega arith) in grind (arith, nat_tests)

    by : (k < n) ⊎ (n ≤ k) → state_of n new.tsns k ≡ state_of n old.tsns k
    by (inl less) = state_before n new.tsns k less ∙ sym (state_before n old.tsns k less)
    by (inr low) =
        state_from n new.tsns k low ∙ h.each (k - n)
        ∙ chosen_no (eqb (k - n) at) (Held chunk) (tsn_at old.tsns (k - n)) (other low)
        ∙ sym (state_from n old.tsns k low)

-- what is seen by numbers is what is seen by places
shifted_test : (n at j : ℕ) → eqb (n + j) (n + at) ≡ eqb j at
shifted_test n at j = grind (arith, nat_tests)

state_shifted : (n : ℕ) (tsns : List TsnState) (j : ℕ) → state_of n tsns (n + j) ≡ tsn_at tsns j
state_shifted n tsns j =
    state_from n tsns (n + j) (omega arith) ∙ ap (λ m. tsn_at tsns m) (omega arith)

pub seen_shifted : (n at j : ℕ) (tsns : List TsnState) (own : ChunkMarks) →
    seen_with (state_of n tsns) (n + at) own (n + j) ≡ marks_with tsns at own j
seen_shifted n at j tsns own =
    ap (λ b. if b then Some own else held_marks (state_of n tsns (n + j))) (shifted_test n at j)
    ∙ ap (λ s. if eqb j at then Some own else held_marks s) (state_shifted n tsns j)

octets_shifted : (n at j : ℕ) (tsns : List TsnState) (own : List ℕ) →
    octets_seen (state_of n tsns) (n + at) own (n + j) ≡ octets_with tsns at own j
octets_shifted n at j tsns own =
    ap (λ b. if b then own else slot_octets (state_of n tsns (n + j))) (shifted_test n at j)
    ∙ ap (λ s. if eqb j at then own else slot_octets s) (state_shifted n tsns j)

marks_shifted : (n first count stream j : ℕ) →
    marks_in_message (n + first) count stream (n + j) ≡ marks_in_message first count stream j
marks_shifted n first count stream j =
    let begins : eqb (n + j) (n + first) ≡ eqb j first = shifted_test n first j in
    let ends : eqb (suc (n + j)) (n + first + count) ≡ eqb (suc j) (first + count) = grind (arith, nat_tests) in
    cc

pub message_shifted : (n at : ℕ) (tsns : List TsnState) (own : ChunkMarks) (first count : ℕ) →
    IsUserMessage (marks_with tsns at own) first count →
    IsUserMessage (seen_with (state_of n tsns) (n + at) own) (n + first) count
message_shifted n at tsns own first count m = record {
  stream = m.stream;
  some = m.some;
  each = λ k low high.
      let j = k - n in
      let is : n + j ≡ k = omega arith in
      ap (λ i. seen_with (state_of n tsns) (n + at) own i) (sym is) ∙ seen_shifted n at j tsns own
      ∙ m.each j (omega arith) (omega arith)
      ∙ ap (λ i. Some i) (sym (marks_shifted n first count m.stream j))
      ∙ ap (λ i. Some (marks_in_message (n + first) count m.stream i)) is;
}

message_back : (n at : ℕ) (tsns : List TsnState) (own : ChunkMarks) (first count : ℕ) → n ≤ first →
    IsUserMessage (seen_with (state_of n tsns) (n + at) own) first count →
    IsUserMessage (marks_with tsns at own) (first - n) count
message_back n at tsns own first count low m =
    let is : n + (first - n) ≡ first = omega arith in
    record {
      stream = m.stream;
      some = m.some;
      each = λ j from till.
          sym (seen_shifted n at j tsns own) ∙ m.each (n + j) (omega arith) (omega arith)
          ∙ ap (λ i. Some (marks_in_message i count m.stream (n + j))) (sym is)
          ∙ ap (λ i. Some i) (marks_shifted n (first - n) count m.stream j);
    }

-- none goes before the first that isn't done
none_before_first : (n at : ℕ) (tsns : List TsnState) (own : ChunkMarks) (first count : ℕ) →
    IsUserMessage (seen_with (state_of n tsns) (n + at) own) first count → first < n → ⊥
none_before_first n at tsns own first count m less =
    clash (marks_in_message first count m.stream first)
    (sym nothing ∙ m.each first (omega arith) (omega (arith, m.some)))
  where
    clash : (marks : ChunkMarks) → ◌≡◌ {A = Option ChunkMarks} None (Some marks) → ⊥
    clash marks e = cc

    other : eqb first (n + at) ≡ false
    other = grind (arith, nat_tests)

    nothing : seen_with (state_of n tsns) (n + at) own first ≡ None
    nothing =
        chosen_no (eqb first (n + at)) (Some own) (held_marks (state_of n tsns first)) other
        ∙ ap held_marks (state_before n tsns first less)

pub none_numbered : (n at : ℕ) (tsns : List TsnState) (own : ChunkMarks) → CompletesNone tsns at own →
    (m : NumberedMessage) → HasNumber m (n + at) →
    IsUserMessage (seen_with (state_of n tsns) (n + at) own) m.first m.count → ⊥
none_numbered n at tsns own none m has whole = by (cases_lt m.first n)
  where
    by : (m.first < n) ⊎ (n ≤ m.first) → ⊥
    by (inl less) = none_before_first n at tsns own m.first m.count whole less
    by (inr low) =
        none (m.first - n) m.count (omega (arith, has)) (omega (arith, has))
        (message_back n at tsns own m.first m.count low whole)

pub said_shifted : (n at : ℕ) (tsns : List TsnState) (own : List ℕ) (first count : ℕ) →
    user_message (octets_seen (state_of n tsns) (n + at) own) (n + first) count
    ≡ user_message (octets_with tsns at own) first count
said_shifted n at tsns own first zero = refl
said_shifted n at tsns own first (suc c) =
    let at_place : n + first + c ≡ n + (first + c) = omega arith in
    ap (λ l. l ++ octets_seen (state_of n tsns) (n + at) own (n + first + c)) (said_shifted n at tsns own first c)
    ∙ ap (λ i. user_message (octets_with tsns at own) first c ++ octets_seen (state_of n tsns) (n + at) own i) at_place
    ∙ ap (λ l. user_message (octets_with tsns at own) first c ++ l) (octets_shifted n at (first + c) tsns own)

-- a message around a place goes no further than what is kept
pub message_within : (tsns : List TsnState) (at : ℕ) (own : ChunkMarks) (first count : ℕ) →
    IsUserMessage (marks_with tsns at own) first count → first ≤ at → at < first + count →
    first + count ≤ max (at + 1) (length tsns)
message_within tsns at own first count m low high = elim (eqb_tells (first + count - 1) at) [
  | inl is_it ↦ omega (arith, is_it.1)
  | inr not_it ↦
      let last = first + count - 1 in
      let there = sym (chosen_no (eqb last at) (Some own) (held_marks (tsn_at tsns last)) not_it.0)
      ∙ m.each last (omega (arith, not_it.1)) (omega arith) in
      omega (arith, held_within tsns last (marks_in_message first count m.stream last) there)
]

-- numbers of TSNs
pub ahead_more : (n c : ℕ) → c ≤ 65536 → ahead (n % 2 ^ 32) (sequence_behind (n % 2 ^ 32) c) ≡ c
ahead_more n zero small = omega arith
ahead_more n (suc c) small = omega arith

pub next_more : (n c : ℕ) → sequence_behind (n % 2 ^ 32) c ≡ (n + c) % 2 ^ 32
next_more n zero = omega arith
next_more n (suc c) = omega arith

pub near_ahead : (n tsn : ℕ) → ahead (n % 2 ^ 32) tsn < 65536 → number_near n tsn ≡ n + ahead (n % 2 ^ 32) tsn
near_ahead n tsn near =
    chosen_yes (nat_lt (ahead (n % 2 ^ 32) tsn) (2 ^ 31)) (n + ahead (n % 2 ^ 32) tsn)
    (n - ahead tsn (n % 2 ^ 32)) (lt-ltb (ahead (n % 2 ^ 32) tsn) (2 ^ 31) (omega arith))

far_ahead : (n tsn : ℕ) → tsn < 2 ^ 32 → 0 < ahead (n % 2 ^ 32) tsn → ahead tsn (n % 2 ^ 32) ≤ 65536 →
    2 ^ 31 ≤ ahead (n % 2 ^ 32) tsn
far_ahead n tsn fits some near = omega arith

some_before : (n tsn : ℕ) → tsn < 2 ^ 32 → 0 < ahead (n % 2 ^ 32) tsn → 0 < ahead tsn (n % 2 ^ 32)
some_before n tsn fits some = omega arith

pub near_before : (n tsn : ℕ) → 2 ^ 32 ≤ n → tsn < 2 ^ 32 → 0 < ahead (n % 2 ^ 32) tsn →
    ahead tsn (n % 2 ^ 32) ≤ 65536 → number_near n tsn < n
near_before n tsn least fits some near =
    let far = far_ahead n tsn fits some near in
    let is = chosen_no (nat_lt (ahead (n % 2 ^ 32) tsn) (2 ^ 31)) (n + ahead (n % 2 ^ 32) tsn)
    (n - ahead tsn (n % 2 ^ 32)) (le-ltb (ahead (n % 2 ^ 32) tsn) (2 ^ 31) far) in
    let some_back = some_before n tsn fits some in
    omega (arith, is, some_back)

-- how many go in front
pub front_count : (old new : TsnWindowState) (h : PassesFront old new) →
    h.count + length new.tsns ≡ length old.tsns
front_count old new h =
    let both = ap length h.tsns ∙ length-append (replicate h.count Done) new.tsns in
    let len : length (replicate h.count Done) ≡ h.count = length-replicate h.count Done in
    omega (arith, both, len)
