-- TSNs changed one by one.
use Rattle.std.proofs.Common.{◌≡◌, ◌≢◌, ◌≤◌, ◌<◌, inl, inr, ℕ, zero, suc, ◌+◌, ◌%◌, ◌^◌, max, nat_le, nat_lt, ◌&&◌, true, false, List, [], ◌∷◌, ◌++◌, length, drop, replicate, slice_set, refl, sym, ◌∙◌, ap, arith, length-append, length-set, append-nil, append_assoc, if◌then◌else◌}
use Rattle.std.proofs.lemmas.Bool.Decides.{eqb_tells, nat_tests}
use Rattle.dm_flows.specs.Windows.{sequence_behind}
use Rattle.dm_association.specs.declared.tsn_state.TsnState.{TsnState}
use Rattle.dm_association.specs.declared.tsn_state.TsnState.TheVariants.{Missing, Done, Held}
use Rattle.dm_association.specs.TsnWindows.{TsnWindowState, tsn_at, is_tsn_done, slot_octets, waiting_octets, PassesFront, AreDone}
use Rattle.dm_association.proofs.TsnCounting.{waiting_both, missing_wait, waiting_set, is_among}
use Rattle.dm_association.proofs.TsnLists.{at_grown, set_here, set_other, chosen_yes, chosen_no}

-- missing ones were put behind the others
pub record IsGrown (old new : List TsnState) (size : ℕ) : Type 0 where
  pub count : ℕ
  pub tsns : new ≡ old ++ replicate count Missing
  pub most : length new ≤ max size (length old)

pub grown_none : (old : List TsnState) (size : ℕ) → IsGrown old old size
grown_none old size = record { count = 0; tsns = sym (append-nil old); most = omega arith }

one_more : (n : ℕ) (x : TsnState) → replicate n x ++ x ∷ [] ≡ replicate (suc n) x
one_more zero x = refl
one_more (suc n) x = ap (λ l. x ∷ l) (one_more n x)

pub grown_more : (old mid : List TsnState) (size : ℕ) → IsGrown old mid size → length mid < size →
    IsGrown old (mid ++ Missing ∷ []) size
grown_more old mid size so less =
    let len = length-append mid (Missing ∷ []) in
    record {
      count = suc so.count;
      tsns = ap (λ l. l ++ Missing ∷ []) so.tsns ∙ append_assoc old (replicate so.count Missing) (Missing ∷ [])
          ∙ ap (λ l. old ++ l) (one_more so.count Missing);
      most = omega (arith, len, so.most);
    }

pub grown_same : (old new : List TsnState) (size k : ℕ) → IsGrown old new size → tsn_at new k ≡ tsn_at old k
grown_same old new size k so = ap (λ l. tsn_at l k) so.tsns ∙ at_grown old so.count k

pub grown_len : (old new : List TsnState) (size : ℕ) → IsGrown old new size → size ≤ length new →
    length new ≡ max size (length old)
grown_len old new size so enough =
    let len = ap length so.tsns ∙ length-append old (replicate so.count Missing) in
    omega (arith, len, so.most)

pub grown_waits : (old new : List TsnState) (size : ℕ) → IsGrown old new size →
    waiting_octets new ≡ waiting_octets old
grown_waits old new size so =
    let both = ap waiting_octets so.tsns ∙ waiting_both old (replicate so.count Missing) in
    let none = missing_wait so.count in
    omega (arith, both, none)

-- TSNs are done, one after the other
pub record FinishesSome (old : List TsnState) (first count freed : ℕ) (new : List TsnState) : Type 0 where
  pub done : AreDone old first count new
  pub sum : freed + waiting_octets new ≡ waiting_octets old

none_among : (first k : ℕ) → (nat_le first k && nat_lt k (first + 0)) ≡ false
none_among first k = grind (arith, nat_tests)

same_among : (first n k : ℕ) → k ≢ first + n →
    (nat_le first k && nat_lt k (first + n)) ≡ (nat_le first k && nat_lt k (first + suc n))
same_among first n k other = grind (arith, nat_tests)

pub finishes_none : (old : List TsnState) (first : ℕ) → first ≤ length old → FinishesSome old first 0 0 old
finishes_none old first within = record {
  done = record {
    len = omega arith;
    each = λ k. sym (chosen_no _ Done (tsn_at old k) (none_among first k));
  };
  sum = omega arith;
}

more_done : (old mid : List TsnState) (first n k : ℕ) → AreDone old first n mid → first + n < length mid →
    tsn_at (slice_set mid (first + n) Done) k
    ≡ (if nat_le first k && nat_lt k (first + suc n) then Done else tsn_at old k)
more_done old mid first n k so within = elim (eqb_tells k (first + n)) [
  | inl is_it ↦
      ap (λ j. tsn_at (slice_set mid (first + n) Done) j) is_it.1 ∙ set_here mid (first + n) Done within
      ∙ sym (chosen_yes _ Done (tsn_at old k) (is_among first (suc n) k (omega (arith, is_it.1)) (omega (arith, is_it.1))))
  | inr not_it ↦
      set_other mid (first + n) Done k not_it.1 ∙ so.each k
      ∙ ap (λ b. if b then Done else tsn_at old k) (same_among first n k not_it.1)
]

pub finishes_more : (old mid : List TsnState) (first n freed more : ℕ) → FinishesSome old first n freed mid →
    first + n < length mid → more ≡ length (slot_octets (tsn_at mid (first + n))) →
    FinishesSome old first (suc n) (freed + more) (slice_set mid (first + n) Done)
finishes_more old mid first n freed more so within is =
    let sum = waiting_set mid (first + n) Done within in
    let before = so.sum in
    record {
      done = record {
        len = omega (arith, length-set {A = TsnState}, so.done.len);
        each = λ k. more_done old mid first n k so.done within;
      };
      sum = omega (arith, sum, before, is);
    }

-- those in front that are done go
pub front_none : (w : TsnWindowState) → PassesFront w w
front_none w = record { count = 0; tsns = refl; next = refl }

first_done : (tsns : List TsnState) → is_tsn_done (tsn_at tsns 0) ≡ true → tsns ≡ Done ∷ drop 1 tsns
first_done [] e = cc
first_done (Missing ∷ tsns) e = cc
first_done (Done ∷ tsns) e = refl
first_done (Held f ∷ tsns) e = cc

behind_more : (next n : ℕ) → (sequence_behind next n + 1) % 2 ^ 32 ≡ sequence_behind next (suc n)
behind_more next zero = omega arith
behind_more next (suc n) = omega arith

pub front_more : (old mid new : TsnWindowState) → PassesFront old mid → is_tsn_done (tsn_at mid.tsns 0) ≡ true →
    new.tsns ≡ drop 1 mid.tsns → new.next ≡ (mid.next + 1) % 2 ^ 32 → PassesFront old new
front_more old mid new so done tsns next = record {
  count = suc so.count;
  tsns = so.tsns ∙ ap (λ l. replicate so.count Done ++ l) (first_done mid.tsns done)
      ∙ sym (append_assoc (replicate so.count Done) (Done ∷ []) (drop 1 mid.tsns))
      ∙ ap (λ l. l ++ drop 1 mid.tsns) (one_more so.count Done)
      ∙ ap (λ l. replicate (suc so.count) Done ++ l) (sym tsns);
  next = next ∙ ap (λ n. (n + 1) % 2 ^ 32) so.next ∙ behind_more old.next so.count;
}
