-- Counters within the bounds of a rule's entries show that none has a fault.
use Rattle.std.proofs.Common.{◌≡◌, ◌<◌, ◌≤◌, ◌+◌, ◌∙◌, ℕ, zero, suc, Bool, true, false, ◌&&◌, nat_lt, Option, None, Some, List, [], ◌∷◌, flat_map, get_or, length, map, length-append, min, refl, replicate, sym, ap, arith}
use Rattle.std.proofs.lemmas.Bool.Decides.{nat_tests}
use Rattle.std.proofs.lemmas.List.{get_or_append_left, get_or-map, length-map}
use Rattle.dm_wire.specs.declared.avp.Avp.{Avp}
use Rattle.dm_tables.specs.declared.rule.Entry.{Entry}
use Rattle.dm_tables.specs.declared.def.AvpDef.{AvpDef}
use Rattle.dm_dict.specs.Bounds.{AreWithin, LaneBounds, least_bound, greatest_bound, most_under, in_eights, short_of_eights, rule_bounds}
use Rattle.dm_dict.specs.Counters.{IsCounted}
use Rattle.dm_dict.specs.Faults.{Fault, entry_faults, excess_faults, first}
use Rattle.dm_dict.specs.Rules.{count, counted_avps}
use Rattle.dm_dict.proofs.Chains.{good_step}

-- where each element is good all are
all_good : {A : Type 0} (F : A → List Fault) (xs : List A)
    → ((i : ℕ) (x : A) → i < length xs → x ≡ get_or xs i x → None ≡ first (F x)) → None ≡ first (flat_map F xs)
all_good F [] each = refl
all_good F (x ∷ xs) each =
    all_good F xs (λ i y below at. each (suc i) y (omega (arith, below)) at)
    ∙ sym (good_step (F x) (flat_map F xs) (each zero x (omega arith) refl))

-- no more than is allowed, as a counter that didn't stop tells
few_enough : (max : Option ℕ) (m : List Avp) (number : ℕ) → number ≡ min (length m) 65535 → number ≤ most_under max
    → None ≡ first (excess_faults max m)
few_enough None m number is few = refl
few_enough (Some zero) m number is few = refl
few_enough (Some (suc max)) m number is few =
    let under : length m ≤ suc max = grind (arith, nat_tests, is, few) in
    let not : (nat_lt 0 (suc max) && nat_lt (suc max) (length m)) ≡ false = grind (arith, nat_tests, under) in
    rw not refl

-- one entry
kept_entry : (avps : List AvpDef) (rule : List Entry) (l : List Avp) (e : Entry) (number : ℕ)
    → number ≡ min (count avps rule l e) 65535 → least_bound e ≤ number → number ≤ greatest_bound e
    → None ≡ first (entry_faults avps rule l e)
kept_entry avps rule l e number is enough few = by (nat_lt 65535 e.min) refl where
  by : (b : Bool) → nat_lt 65535 e.min ≡ b → None ≡ first (entry_faults avps rule l e)
  by true great =
      let none : number ≤ 0 = rw great at few in
      let above : 65535 < e.min = grind (arith, nat_tests, great) in
      absurd (omega (arith, none, enough, above))
  by false small =
      let most : number ≤ most_under e.max = rw small at few in
      let low : e.min ≤ 65535 = grind (arith, nat_tests, small) in
      let within : e.min ≤ count avps rule l e = omega (arith, is, enough, low) in
      let not : nat_lt (count avps rule l e) e.min ≡ false = grind (arith, nat_tests, within) in
      rw not (few_enough e.max (counted_avps avps rule l e) number is most)

-- the lane of an entry
lane_at : (f : Entry → ℕ) (rule : List Entry) (i : ℕ) (e : Entry) → i < length rule → e ≡ get_or rule i e
    → get_or (in_eights (map f rule)) i 0 ≡ f e
lane_at f rule i e below at =
    let inside : i < length (map f rule) = omega (arith, below, length-map rule f) in
    get_or_append_left (map f rule) _ 0 i inside ∙ get_or-map f rule i e 0 below ∙ ap f (sym at)

pub kept_within : (avps : List AvpDef) (rule : List Entry) (l : List Avp) (bounds : LaneBounds) (numbers : List ℕ)
    → bounds ≡ rule_bounds rule → length bounds.mins ≤ length numbers → AreWithin bounds numbers
    → IsCounted avps rule l 0 numbers → None ≡ first (flat_map (entry_faults avps rule l) rule)
kept_within avps rule l bounds numbers is room within counted =
    let shown : AreWithin (rule_bounds rule) numbers = rw is at within in
    let long : length (rule_bounds rule).mins ≤ length numbers = rw is at room in
    all_good (entry_faults avps rule l) rule (λ i e below at.
    let size = length-map rule least_bound in
    let more = length-append (map least_bound rule) (replicate (short_of_eights (length (map least_bound rule))) 0) in
    let lane : i < length (rule_bounds rule).mins = omega (arith, below, size, more) in
    let there : 0 + i ≡ i = omega arith in
    let counter = counted i e (omega (arith, lane, long)) (rw there below) (rw there at) in
    let (low, high) = shown i lane in
    kept_entry avps rule l e (get_or numbers i 0) counter (rw (lane_at least_bound rule i e below at) at low)
    (rw (lane_at greatest_bound rule i e below at) at high))
