-- How many octets are held, where octets came and where some were handed out.
use Rattle.std.proofs.Common.{◌≡◌, ◌≤◌, ℕ, zero, suc, ◌+◌, ◌-◌, nat_le, cond, is_some, Option, None, Some, List, [], ◌∷◌, ◌++◌, map, length, slice_get, refl, sym, ◌∙◌, ap, arith}
use Rattle.std.proofs.Math.Numerals.{one-add}
use Rattle.std.proofs.lemmas.Bool.{lt-leb}
use Rattle.std.proofs.lemmas.List.{length-drop}
use Rattle.std.proofs.lemmas.List.Sums.{sum_by-append}
use Rattle.dm_flows.specs.Windows.{WindowState, Arrival, octet_of, first_known, slot, known_octets, arrival_from, TakesOctets, HandsOctets}
use Rattle.dm_flows.specs.Accounts.{known_among, repeated_at}
use Rattle.dm_flows.proofs.InOrder.{octet_ahead, left_out}
use Rattle.dm_flows.proofs.Straight.{octet_there}
use Rattle.dm_flows.proofs.SlotLists.{known_none}

-- the octet of a number, where the first goes into this slot
abbrev placed : ℕ → List ℕ → ℕ → Option ℕ
placed zero s k = slice_get s k
placed (suc a) s zero = None
placed (suc a) s (suc k) = placed a s k

abbrev at_slot : ℕ → List ℕ → Arrival
at_slot a s = record { at = a; octets = s }

octet_placed : (a : ℕ) (s : List ℕ) (k : ℕ) → octet_of (at_slot a s) k ≡ placed a s k
octet_placed zero s k = octet_there s k
octet_placed (suc a) s zero = left_out (nat_le (suc a) zero) (slice_get s (zero - suc a)) None (lt-leb (suc a) zero (omega arith))
octet_placed (suc a) s (suc k) =
    ap (λ n. octet_of (at_slot n s) (suc k)) (sym (one-add a)) ∙
    ap (λ n. octet_of (at_slot (1 + a) s) n) (sym (one-add k)) ∙ sym (octet_ahead 1 a k s) ∙ octet_placed a s k

-- slots that are filled one by one
abbrev filled_front : List (Option ℕ) → List ℕ → List (Option ℕ)
filled_front held [] = held
filled_front [] (x ∷ s) = Some x ∷ filled_front [] s
filled_front (h ∷ held) (x ∷ s) = first_known h (Some x) ∷ filled_front held s

abbrev filled : List (Option ℕ) → ℕ → List ℕ → List (Option ℕ)
filled held zero s = filled_front held s
filled [] (suc a) s = None ∷ filled [] a s
filled (h ∷ held) (suc a) s = h ∷ filled held a s

front_slot : (held : List (Option ℕ)) (s : List ℕ) (k : ℕ) →
    slot (filled_front held s) k ≡ first_known (slot held k) (slice_get s k)
front_slot held [] k = sym (known_none (slot held k))
front_slot [] (x ∷ s) zero = refl
front_slot [] (x ∷ s) (suc k) = front_slot [] s k
front_slot (h ∷ held) (x ∷ s) zero = refl
front_slot (h ∷ held) (x ∷ s) (suc k) = front_slot held s k

filled_slot : (held : List (Option ℕ)) (a : ℕ) (s : List ℕ) (k : ℕ) →
    slot (filled held a s) k ≡ first_known (slot held k) (placed a s k)
filled_slot held zero s k = front_slot held s k
filled_slot [] (suc a) s zero = refl
filled_slot [] (suc a) s (suc k) = filled_slot [] a s k
filled_slot (h ∷ held) (suc a) s zero = sym (known_none h)
filled_slot (h ∷ held) (suc a) s (suc k) = filled_slot held a s k

known_cons : (h : Option ℕ) (held : List (Option ℕ)) →
    known_octets (h ∷ held) ≡ cond (is_some h) 1 0 + known_octets held
known_cons None held = sum_by-append (λ (o : Option ℕ). cond (is_some o) 1 0) (None ∷ []) held
known_cons (Some x) held = sum_by-append (λ (o : Option ℕ). cond (is_some o) 1 0) (Some x ∷ []) held

-- the same slots hold as many octets
none_known : (g : List (Option ℕ)) → ((k : ℕ) → slot g k ≡ None) → known_octets g ≡ 0
none_known [] h = refl
none_known (y ∷ g) h =
    let rest = none_known g (λ k. h (suc k)) in
    let first = known_cons None g in
    ap (λ o. known_octets (o ∷ g)) (h 0) ∙ omega (arith, rest, first)

same_known : (f g : List (Option ℕ)) → ((k : ℕ) → slot f k ≡ slot g k) → known_octets f ≡ known_octets g
same_known [] g h = sym (none_known g (λ k. sym (h k)))
same_known (x ∷ f) [] h = none_known (x ∷ f) h
same_known (x ∷ f) (y ∷ g) h =
    let rest = same_known f g (λ k. h (suc k)) in
    let one = known_cons y f in
    let other = known_cons y g in
    ap (λ o. known_octets (o ∷ f)) (h 0) ∙ omega (arith, rest, one, other)

-- what is filled is what was there, and what came but found its slot filled
one_known : (h : Option ℕ) (x : ℕ) → ◌≡◌ {A = ℕ} (cond (is_some (first_known h (Some x))) 1 0) 1
one_known None x = refl
one_known (Some y) x = refl

known_nowhere : (a : ℕ) (s : List ℕ) → known_among [] a s ≡ 0
known_nowhere a [] = refl
known_nowhere a (x ∷ s) = let rest = known_nowhere (suc a) s in omega (arith, rest)

known_later : (h : Option ℕ) (held : List (Option ℕ)) (a : ℕ) (s : List ℕ) →
    known_among (h ∷ held) (suc a) s ≡ known_among held a s
known_later h held a [] = refl
known_later h held a (x ∷ s) =
    ap (λ n. cond (is_some (slot held a)) 1 0 + n) (known_later h held (suc a) s)

front_known : (held : List (Option ℕ)) (s : List ℕ) →
    known_octets (filled_front held s) + known_among held 0 s ≡ known_octets held + length s
front_known held [] = omega arith
front_known [] (x ∷ s) =
    let rest = front_known [] s in
    let none = known_nowhere 0 s in
    let also = known_nowhere 1 s in
    let one = known_cons (Some x) (filled_front [] s) in
    omega (arith, rest, none, also, one)
front_known (h ∷ held) (x ∷ s) =
    let rest = front_known held s in
    let later = known_later h held 0 s in
    let one = one_known h x in
    let new = known_cons (first_known h (Some x)) (filled_front held s) in
    let old = known_cons h held in
    omega (arith, rest, later, one, new, old)

filled_known : (held : List (Option ℕ)) (a : ℕ) (s : List ℕ) →
    known_octets (filled held a s) + known_among held a s ≡ known_octets held + length s
filled_known held zero s = front_known held s
filled_known [] (suc a) s =
    let rest = filled_known [] a s in
    let none = known_nowhere a s in
    let also = known_nowhere (suc a) s in
    let new = known_cons None (filled [] a s) in
    omega (arith, rest, none, also, new)
filled_known (h ∷ held) (suc a) s =
    let rest = filled_known held a s in
    let later = known_later h held a s in
    let new = known_cons h (filled held a s) in
    let old = known_cons h held in
    omega (arith, rest, later, new, old)

pub taken_known : (old new : WindowState) (number : ℕ) (s : List ℕ) → TakesOctets old number s new →
    known_octets new.held + repeated_at old number s ≡ known_octets old.held + length s
taken_known old new number s h =
    let came = arrival_from old.next number s in
    let same = same_known new.held (filled old.held came.at came.octets)
    (λ k.
    h.held k ∙ ap (λ o. first_known (slot old.held k) o) (octet_placed came.at came.octets k) ∙
    sym (filled_slot old.held came.at came.octets k)) in
    let all = filled_known old.held came.at came.octets in
    let most : length came.octets ≤ length s = omega (arith, length-drop {A = ℕ}) in
    omega (arith, same, all, most)

-- what is handed out is no more held
front_handed : (front : List ℕ) (held : List (Option ℕ)) →
    known_octets (map Some front ++ held) ≡ length front + known_octets held
front_handed [] held = omega arith
front_handed (x ∷ front) held =
    let rest = front_handed front held in
    let one = known_cons (Some x) (map Some front ++ held) in
    omega (arith, rest, one)

pub handed_known : (old new : WindowState) (front : List ℕ) → HandsOctets old front new →
    known_octets old.held ≡ length front + known_octets new.held
handed_known old new front h = ap known_octets h.held ∙ front_handed front new.held
