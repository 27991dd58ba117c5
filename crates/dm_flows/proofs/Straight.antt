-- Octets in order, where nothing waits.
use Rattle.std.proofs.Common.{◌≡◌, ◌<◌, ◌≤◌, ℕ, zero, suc, ◌+◌, ◌-◌, ◌%◌, ◌^◌, Bool, true, nat_lt, nat_le, if◌then◌else◌, None, Some, Result, Ok, Err, OnOk, List, [], ◌∷◌, ◌++◌, map, length, drop, slice_get, refl, sym, ◌∙◌, ap, subst, arith, append-nil}
use Rattle.std.proofs.lemmas.Bool.{lt-ltb, le-leb}
use Rattle.dm_flows.specs.Windows.{WindowState, Arrival, octet_of, first_known, slot, ahead, place_ahead, passed_of, arrival_from, sequence_behind, IsTooFar, HandsStraight, TakesThrough}

pub sequence_some : (a n : ℕ) → 0 < n → (a + n) % 2 ^ 32 ≡ sequence_behind a n
sequence_some a zero some = absurd (omega arith)
sequence_some a (suc n) some = refl

slot_known : (s : List ℕ) (k : ℕ) → slot (map Some s) k ≡ slice_get s k
slot_known [] k = refl
slot_known (x ∷ s) zero = refl
slot_known (x ∷ s) (suc k) = slot_known s k

chosen : {X : Type 0} (b : Bool) (x y : X) → b ≡ true → (if b then x else y) ≡ x
chosen b x y e = ap (λ t. if t then x else y) e

abbrev placed : ℕ → List ℕ → Arrival
placed at octets = record { at = at; octets = octets }

same_place : (next : ℕ) (octets : List ℕ) → next < 2 ^ 32 → arrival_from next next octets ≡ placed 0 octets
same_place next octets fits =
    let none : ahead next next ≡ 0 = omega arith in
    let below : ahead next next < 2 ^ 31 = omega (arith, none) in
    let test = lt-ltb (ahead next next) (2 ^ 31) below in
    let at : place_ahead next next ≡ 0 =
    chosen (nat_lt (ahead next next) (2 ^ 31)) (ahead next next) 0 test ∙ none in
    let passed : passed_of next next ≡ 0 =
    chosen (nat_lt (ahead next next) (2 ^ 31)) 0 (ahead next next) test in
    ap (λ n. placed n (drop (passed_of next next) octets)) at ∙ ap (λ n. placed 0 (drop n octets)) passed

pub octet_there : (octets : List ℕ) (k : ℕ) → octet_of (placed 0 octets) k ≡ slice_get octets k
octet_there octets k =
    chosen (nat_le 0 k) (slice_get octets (k - 0)) None (le-leb 0 k (omega arith)) ∙
    ap (λ n. slice_get octets n) (back k)
  where
    back : (n : ℕ) → n - 0 ≡ n
    back n = omega arith

pub through_straight : (old new : WindowState) (sequence : ℕ) (octets before after : List ℕ) → old.held ≡ [] →
    old.next ≡ sequence → sequence < 2 ^ 32 → HandsStraight old octets new → after ≡ before ++ octets →
    TakesThrough old sequence octets before new after
through_straight old new sequence octets before after none is fits straight put =
    let came : arrival_from old.next sequence octets ≡ placed 0 octets =
    ap (λ n. arrival_from n sequence octets) is ∙ same_place sequence octets fits in
    let empty : new.held ≡ [] = straight.held ∙ none in
    record {
      mid = record { next = old.next; held = map Some octets };
      takes = record {
        next = refl;
        held = λ k.
            slot_known octets k ∙ sym (octet_there octets k) ∙ ap (λ a. octet_of a k) (sym came) ∙
            ap (λ l. first_known (slot l k) (octet_of (arrival_from old.next sequence octets) k)) (sym none);
      };
      hands = (
        octets,
        record {
          held = sym (append-nil (map Some octets)) ∙ ap (λ l. map Some octets ++ l) (sym empty);
          next = straight.next;
        },
        put,
      );
    }

pub on_both : {T E : Type 0} (result : Result T E) (A B C : Type 0) → OnOk result A → OnOk result B →
    (A → B → C) → OnOk result C
on_both (Ok x) A B C a b f = f a b
on_both (Err e) A B C a b f = tt

pub empty_list : {X : Type 0} (xs : List X) → length xs ≡ 0 → xs ≡ []
empty_list [] h = refl
empty_list (x ∷ xs) h = absurd (omega arith)

-- and no more of them than may be held aren't too far
pub straight_near : (next sequence : ℕ) (octets : List ℕ) → next ≡ sequence → sequence < 2 ^ 32 →
    length octets ≤ 1048576 → IsTooFar (arrival_from next sequence octets) → ⊥
straight_near next sequence octets is fits most far =
    let came : arrival_from next sequence octets ≡ placed 0 octets =
    ap (λ n. arrival_from n sequence octets) is ∙ same_place sequence octets fits in
    let at : IsTooFar (placed 0 octets) = subst IsTooFar came far in
    let above = at.1 in
    omega arith

pub on_ok : {T E : Type 0} (result : Result T E) (A : Type 0) → A → OnOk result A
on_ok (Ok x) A a = a
on_ok (Err e) A a = tt
