-- Each octet that came is somewhere.
use Rattle.std.proofs.Common.{◌≡◌, inl, inr, ℕ, ◌+◌, ◌-◌, ◌^◌, min, List, [], ◌∷◌, ◌++◌, length, refl, ◌∙◌, ap, subst, arith, length-append, append-nil}
use Rattle.std.proofs.lemmas.List.Folds.{concat-append}
use Rattle.std.specs.List.{concat}
use Rattle.dm_flows.specs.Windows.{known_octets}
use Rattle.dm_flows.specs.Flows.{FlowState, more_passed, known_waiting, stream_left, BeginsAnew, HandsNoMessage}
use Rattle.dm_flows.specs.Accounts.{Account, begun_account, Brings, BringsOctets, BringsFront, BringsLate, BringsControl, FindsNone, HandsOut, IsControlled, IsNextAccount, AccountsFollow, IsAccounted, repeated_at, repeated_in}
use Rattle.dm_flows.proofs.Counting.{taken_known, handed_known}

more_lost : (lost n : ℕ) → more_passed (min lost (2 ^ 64 - 1)) n ≡ min (lost + n) (2 ^ 64 - 1)
more_lost lost n = omega arith

passed_more : (passed lost n : ℕ) → passed ≡ min lost (2 ^ 64 - 1) → more_passed passed n ≡ min (lost + n) (2 ^ 64 - 1)
passed_more passed lost n e = ap (λ p. more_passed p n) e ∙ more_lost lost n

same_messages : (old new : List (List ℕ)) → new ≡ old → length (concat new) ≡ length (concat old)
same_messages old new e = ap (λ m. length (concat m)) e

-- so many octets wait or are in order
abbrev held_in : FlowState → ℕ
held_in flow = known_waiting flow.window + length flow.ready

octets : (old new : Account) → IsAccounted old → BringsOctets old new → IsAccounted new
octets old new so b =
    let h = b.goes in
    let took = taken_known h.before h.takes.mid b.number b.octets h.takes.takes in
    let handed = handed_known h.takes.mid h.after h.takes.hands.0 h.takes.hands.1 in
    let ready : length new.flow.ready ≡ length old.flow.ready + length h.takes.hands.0 =
    ap length h.takes.hands.2 ∙ length-append old.flow.ready h.takes.hands.0 in
    let waits : known_waiting new.flow.window ≡ known_octets h.after.held =
    ap (λ (f : FlowState). known_waiting f.window) h.others in
    let waited : known_waiting old.flow.window ≡ known_octets h.before.held = ap known_waiting h.known in
    let again : repeated_in old.flow.window b.number b.octets ≡ repeated_at h.before b.number b.octets =
    ap (λ w. repeated_in w b.number b.octets) h.known in
    let messages = same_messages old.messages new.messages b.brings.messages in
    let came = b.brings.came in
    let repeated = b.brings.repeated in
    let before = so.came in
    record {
      lost = so.lost;
      passed = ap (λ (f : FlowState). f.passed) h.others ∙ so.passed;
      came = omega (arith, took, handed, ready, waits, waited, again, messages, came, repeated, before);
    }

-- a state that has so many octets in order and nothing that waits, and passed over the others
lost_more : (old new : Account) (octets in_order more : ℕ) → IsAccounted old → Brings old new octets 0 →
    new.flow.passed ≡ more_passed old.flow.passed more → length new.flow.ready ≡ in_order →
    known_waiting new.flow.window ≡ 0 → held_in old.flow + octets ≡ in_order + more → IsAccounted new
lost_more old new octets in_order more so b passed ready waits all =
    let messages = same_messages old.messages new.messages b.messages in
    let came = b.came in
    let repeated = b.repeated in
    let before = so.came in
    record {
      lost = so.lost + more;
      passed = passed ∙ passed_more old.flow.passed so.lost more so.passed;
      came = omega (arith, messages, came, repeated, before, ready, waits, all);
    }

more_twice : (p m n : ℕ) → more_passed (more_passed p m) n ≡ more_passed p (m + n)
more_twice p m n = omega arith

front : (old new : Account) → IsAccounted old → BringsFront old new → IsAccounted new
front old new so b = by b.begins
  where
    by : BeginsAnew old.flow b.number b.octets new.flow → IsAccounted new
    by (inl (header, e)) =
        lost_more old new (length b.octets) (length b.octets) (held_in old.flow) so b.brings
        (ap (λ (f : FlowState). f.passed) e) (ap (λ (f : FlowState). length f.ready) e)
        (ap (λ (f : FlowState). known_waiting f.window) e) (omega arith)
    by (inr (none, e)) =
        lost_more old new (length b.octets) 0 (held_in old.flow + length b.octets) so b.brings
        (ap (λ (f : FlowState). f.passed) e ∙ more_twice old.flow.passed (held_in old.flow) (length b.octets))
        (ap (λ (f : FlowState). length f.ready) e) (ap (λ (f : FlowState). known_waiting f.window) e) (omega arith)

-- the octets in order and what waits stay
held_stays : (old new : Account) (octets more : ℕ) → IsAccounted old → Brings old new octets 0 → octets ≡ more →
    new.flow.passed ≡ more_passed old.flow.passed more → new.flow.ready ≡ old.flow.ready →
    new.flow.window ≡ old.flow.window → IsAccounted new
held_stays old new octets more so b all passed ready window =
    let messages = same_messages old.messages new.messages b.messages in
    let came = b.came in
    let repeated = b.repeated in
    let before = so.came in
    let order = ap length ready in
    let waits = ap known_waiting window in
    record {
      lost = so.lost + more;
      passed = passed ∙ passed_more old.flow.passed so.lost more so.passed;
      came = omega (arith, messages, came, repeated, before, order, waits, all);
    }

none_more : (old : Account) → IsAccounted old → old.flow.passed ≡ more_passed old.flow.passed 0
none_more old so = let p = so.passed in omega (arith, p)

late : (old new : Account) → IsAccounted old → BringsLate old new → IsAccounted new
late old new so b =
    held_stays old new b.octets b.octets so b.brings refl (ap (λ (f : FlowState). f.passed) b.passes)
    (ap (λ (f : FlowState). f.ready) b.passes) (ap (λ (f : FlowState). f.window) b.passes)

-- the stream was left
left : (old new : Account) → IsAccounted old → Brings old new 0 0 →
    new.flow.passed ≡ (stream_left old.flow).passed → new.flow.ready ≡ [] → known_waiting new.flow.window ≡ 0 →
    IsAccounted new
left old new so b passed ready waits =
    lost_more old new 0 0 (held_in old.flow) so b passed (ap length ready) waits (omega arith)

control : (old new : Account) → IsAccounted old → BringsControl old new → IsAccounted new
control old new so b = by b.controls
  where
    by : IsControlled old.flow new.flow → IsAccounted new
    by (inl (number, e)) =
        left old new so b.brings (ap (λ (f : FlowState). f.passed) e) (ap (λ (f : FlowState). f.ready) e)
        (ap (λ (f : FlowState). known_waiting f.window) e)
    by (inr (inl e)) =
        left old new so b.brings (ap (λ (f : FlowState). f.passed) e) (ap (λ (f : FlowState). f.ready) e)
        (ap (λ (f : FlowState). known_waiting f.window) e)
    by (inr (inr (closing, e))) =
        held_stays old new 0 0 so b.brings refl (ap (λ (f : FlowState). f.passed) e ∙ none_more old so)
        (ap (λ (f : FlowState). f.ready) e) (ap (λ (f : FlowState). f.window) e)

none : (old new : Account) → IsAccounted old → FindsNone old new → IsAccounted new
none old new so b = by b.finds
  where
    by : HandsNoMessage old.flow new.flow → IsAccounted new
    by (inl (partial, e)) =
        held_stays old new 0 0 so b.brings refl (ap (λ (f : FlowState). f.passed) e ∙ none_more old so)
        (ap (λ (f : FlowState). f.ready) e) (ap (λ (f : FlowState). f.window) e)
    by (inr (fault, stands, e)) =
        left old new so b.brings (ap (λ (f : FlowState). f.passed) e) (ap (λ (f : FlowState). f.ready) e)
        (ap (λ (f : FlowState). known_waiting f.window) e)

one_message : (messages : List (List ℕ)) (m : List ℕ) →
    length (concat (messages ++ m ∷ [])) ≡ length (concat messages) + length m
one_message messages m =
    ap length (concat-append messages (m ∷ [])) ∙ length-append (concat messages) (m ++ []) ∙
    ap (λ l. length (concat messages) + length l) (append-nil m)

out : (old new : Account) → IsAccounted old → HandsOut old new → IsAccounted new
out old new so h =
    let first : length old.flow.ready ≡ length h.message + length h.hands.more =
    ap length h.hands.first ∙ length-append h.message h.hands.more in
    let ready : length new.flow.ready ≡ length h.hands.more = ap (λ (f : FlowState). length f.ready) h.hands.rest in
    let waits : known_waiting new.flow.window ≡ known_waiting old.flow.window =
    ap (λ (f : FlowState). known_waiting f.window) h.hands.rest in
    let messages : length (concat new.messages) ≡ length (concat old.messages) + length h.message =
    ap (λ m. length (concat m)) h.messages ∙ one_message old.messages h.message in
    let came = h.came in
    let repeated = h.repeated in
    let before = so.came in
    record {
      lost = so.lost;
      passed = ap (λ (f : FlowState). f.passed) h.hands.rest ∙ so.passed;
      came = omega (arith, first, ready, waits, messages, came, repeated, before);
    }

next : (old new : Account) → IsAccounted old → IsNextAccount old new → IsAccounted new
next old new so (inl h) = octets old new so h
next old new so (inr (inl h)) = front old new so h
next old new so (inr (inr (inl h))) = late old new so h
next old new so (inr (inr (inr (inl h)))) = control old new so h
next old new so (inr (inr (inr (inr (inl h))))) = none old new so h
next old new so (inr (inr (inr (inr (inr h))))) = out old new so h

follow : (old : Account) (later : List Account) (now : Account) → IsAccounted old → AccountsFollow old later now →
    IsAccounted now
follow old [] now so e = subst IsAccounted e so
follow old (a ∷ later) now so h = follow a later now (next old a so h.0) h.1

pub each_accounted : (max : ℕ) (later : List Account) (now : Account) → AccountsFollow (begun_account max) later now →
    IsAccounted now
each_accounted max later now h =
    follow (begun_account max) later now (record { lost = 0; passed = refl; came = refl }) h
