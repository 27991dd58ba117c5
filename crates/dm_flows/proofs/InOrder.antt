-- What is handed out is the stream, in order.
use Rattle.std.proofs.Common.{◌≡◌, ◌≤◌, ◌<◌, ◌⊎◌, inl, inr, ℕ, zero, suc, ◌+◌, ◌-◌, ◌%◌, ◌^◌, Bool, true, false, nat_lt, nat_le, if◌then◌else◌, Option, None, List, [], ◌∷◌, ◌++◌, length, drop, slice_get, refl, sym, ◌∙◌, ap, subst, arith, add-zero, length-append}
use Rattle.std.proofs.lemmas.Bool.{cases_lt, lt-ltb, le-leb, le-ltb, lt-leb}
use Rattle.dm_flows.specs.Windows.{Arrival, octet_of, first_known, slot, ahead, passed_of, arrival_from, sequence_behind}
use Rattle.dm_flows.specs.Order.{number_near, first_came, IsStreamOf, IsFrontOf, arrival_at, Passage, begun_passage, Arrives, Departs, HappenInTurn}
use Rattle.dm_flows.proofs.SlotLists.{known_none, known_assoc, get_past, get_within, get_left, get_right, get_behind, slot_behind, slot_front}

-- one arrival more, behind the others
first_more : (arrivals : List Arrival) (a : Arrival) (k : ℕ) →
    first_came (arrivals ++ a ∷ []) k ≡ first_known (first_came arrivals k) (octet_of a k)
first_more [] a k = known_none (octet_of a k)
first_more (b ∷ arrivals) a k =
    ap (λ o. first_known (octet_of b k) o) (first_more arrivals a k) ∙
    sym (known_assoc (octet_of b k) (first_came arrivals k) (octet_of a k))

-- what a list has within it stands whatever comes later
known_stays : (s : List ℕ) (k : ℕ) (o : Option ℕ) → k < length s → first_known (slice_get s k) o ≡ slice_get s k
known_stays s k o within =
    let there = get_within s k within in
    ap (λ x. first_known x o) there.1 ∙ sym there.1

-- an octet by its number, counted from the next one or from the first
lt_true : (m n : ℕ) → m < n → nat_lt m n ≡ true
lt_true m n h = lt-ltb m n h

lt_false : (m n : ℕ) → n ≤ m → nat_lt m n ≡ false
lt_false m n h = le-ltb m n h

le_true : (m n : ℕ) → m ≤ n → nat_le m n ≡ true
le_true m n h = le-leb m n h

le_false : (m n : ℕ) → n < m → nat_le m n ≡ false
le_false m n h = lt-leb m n h

chosen : {X : Type 0} (b : Bool) (x y : X) → b ≡ true → (if b then x else y) ≡ x
chosen b x y e = ap (λ t. if t then x else y) e

pub left_out : {X : Type 0} (b : Bool) (x y : X) → b ≡ false → (if b then x else y) ≡ y
left_out b x y e = ap (λ t. if t then x else y) e

-- ahead of a number by so many
pub octet_ahead : (n a k : ℕ) (s : List ℕ) →
    octet_of (record { at = a; octets = s }) k ≡ octet_of (record { at = n + a; octets = s }) (n + k)
octet_ahead n a k s = by (cases_lt k a)
  where
    by : (k < a) ⊎ (a ≤ k) →
        octet_of (record { at = a; octets = s }) k ≡ octet_of (record { at = n + a; octets = s }) (n + k)
    by (inl less) =
        left_out (nat_le a k) (slice_get s (k - a)) None (le_false a k less) ∙
        sym (left_out (nat_le (n + a) (n + k)) (slice_get s (n + k - (n + a))) None
        (le_false (n + a) (n + k) (omega arith)))
    by (inr has) =
        chosen (nat_le a k) (slice_get s (k - a)) None (le_true a k has) ∙
        ap (λ m. slice_get s m) (omega arith) ∙
        sym (chosen (nat_le (n + a) (n + k)) (slice_get s (n + k - (n + a))) None
        (le_true (n + a) (n + k) (omega arith)))

-- before it by so many
octet_before : (n b k : ℕ) (s : List ℕ) → b ≤ n →
    octet_of (record { at = 0; octets = drop b s }) k ≡ octet_of (record { at = n - b; octets = s }) (n + k)
octet_before n b k s within =
    chosen (nat_le 0 k) (slice_get (drop b s) (k - 0)) None (le_true 0 k (omega arith)) ∙
    get_behind s b (k - 0) ∙ ap (λ m. slice_get s m) (omega arith) ∙
    sym (chosen (nat_le (n - b) (n + k)) (slice_get s (n + k - (n - b))) None (le_true (n - b) (n + k) (omega arith)))

arrival_same : (n sequence k : ℕ) (s : List ℕ) → 2 ^ 32 ≤ n →
    octet_of (arrival_from (n % 2 ^ 32) sequence s) k ≡ octet_of (arrival_at n sequence s) (n + k)
arrival_same n sequence k s least = by (cases_lt (ahead (n % 2 ^ 32) sequence) (2 ^ 31))
  where
    by : (ahead (n % 2 ^ 32) sequence < 2 ^ 31) ⊎ (2 ^ 31 ≤ ahead (n % 2 ^ 32) sequence) →
        octet_of (arrival_from (n % 2 ^ 32) sequence s) k ≡ octet_of (arrival_at n sequence s) (n + k)
    by (inl near) =
        let test = lt_true (ahead (n % 2 ^ 32) sequence) (2 ^ 31) near in
        ap (λ m. octet_of (record { at = m; octets = drop (passed_of (n % 2 ^ 32) sequence) s }) k)
        (chosen (nat_lt (ahead (n % 2 ^ 32) sequence) (2 ^ 31)) (ahead (n % 2 ^ 32) sequence) 0 test) ∙
        ap (λ m. octet_of (record { at = ahead (n % 2 ^ 32) sequence; octets = drop m s }) k)
        (chosen (nat_lt (ahead (n % 2 ^ 32) sequence) (2 ^ 31)) 0 (ahead sequence (n % 2 ^ 32)) test) ∙
        octet_ahead n (ahead (n % 2 ^ 32) sequence) k s ∙
        ap (λ m. octet_of (record { at = m; octets = s }) (n + k))
        (sym (chosen (nat_lt (ahead (n % 2 ^ 32) sequence) (2 ^ 31)) (n + ahead (n % 2 ^ 32) sequence)
        (n - ahead sequence (n % 2 ^ 32)) test))
    by (inr far) =
        let test = lt_false (ahead (n % 2 ^ 32) sequence) (2 ^ 31) far in
        ap (λ m. octet_of (record { at = m; octets = drop (passed_of (n % 2 ^ 32) sequence) s }) k)
        (left_out (nat_lt (ahead (n % 2 ^ 32) sequence) (2 ^ 31)) (ahead (n % 2 ^ 32) sequence) 0 test) ∙
        ap (λ m. octet_of (record { at = 0; octets = drop m s }) k)
        (left_out (nat_lt (ahead (n % 2 ^ 32) sequence) (2 ^ 31)) 0 (ahead sequence (n % 2 ^ 32)) test) ∙
        octet_before n (ahead sequence (n % 2 ^ 32)) k s (omega arith) ∙
        ap (λ m. octet_of (record { at = m; octets = s }) (n + k))
        (sym (left_out (nat_lt (ahead (n % 2 ^ 32) sequence) (2 ^ 31)) (n + ahead (n % 2 ^ 32) sequence)
        (n - ahead sequence (n % 2 ^ 32)) test))

-- what every passage keeps
pub record IsSound (base : ℕ) (p : Passage) : Type 0 where
  pub least : 2 ^ 32 ≤ p.number
  pub number : p.number ≡ base + length p.handed
  pub next : p.waits.next ≡ p.number % 2 ^ 32
  pub handed : IsFrontOf base p.arrivals p.handed
  pub held : (k : ℕ) → slot p.waits.held k ≡ first_came p.arrivals (p.number + k)

pub sound_begun : (base : ℕ) → 2 ^ 32 ≤ base → IsSound base (begun_passage base)
sound_begun base least = record {
  least = least;
  number = omega arith;
  next = refl;
  handed = λ k h. absurd (omega arith);
  held = λ k. refl;
}

-- the arrivals after one more
arrives_first : (old new : Passage) (a : Arrives old new) (k : ℕ) →
    first_came new.arrivals k ≡
    first_known (first_came old.arrivals k) (octet_of (arrival_at old.number a.sequence a.octets) k)
arrives_first old new a k =
    ap (λ l. first_came l k) a.arrivals ∙ first_more old.arrivals (arrival_at old.number a.sequence a.octets) k

pub sound_arrives : (base : ℕ) (old new : Passage) → IsSound base old → Arrives old new → IsSound base new
sound_arrives base old new so a = record {
  least = subst (λ (n : ℕ). 2 ^ 32 ≤ n) (sym a.number) so.least;
  number = a.number ∙ so.number ∙ ap (λ l. base + length l) (sym a.handed);
  next = a.takes.next ∙ so.next ∙ ap (λ n. n % 2 ^ 32) (sym a.number);
  handed = λ k h.
      let within : k < length old.handed = subst (λ (l : List ℕ). k < length l) a.handed h in
      arrives_first old new a (base + k) ∙
      ap (λ o. first_known o (octet_of (arrival_at old.number a.sequence a.octets) (base + k))) (so.handed k within) ∙
      known_stays old.handed k (octet_of (arrival_at old.number a.sequence a.octets) (base + k)) within ∙
      ap (λ l. slice_get l k) (sym a.handed);
  held = λ k.
      a.takes.held k ∙
      ap (λ o. first_known o (octet_of (arrival_from old.waits.next a.sequence a.octets) k)) (so.held k) ∙
      ap (λ o. first_known (first_came old.arrivals (old.number + k)) o)
      (ap (λ n. octet_of (arrival_from n a.sequence a.octets) k) so.next ∙
      arrival_same old.number a.sequence k a.octets so.least) ∙
      sym (arrives_first old new a (old.number + k)) ∙ ap (λ n. first_came new.arrivals (n + k)) (sym a.number);
}

-- what was handed out, and what is now
departs_handed : (base : ℕ) (old new : Passage) (so : IsSound base old) (d : Departs old new) (k : ℕ) →
    k < length new.handed → (k < length old.handed) ⊎ (length old.handed ≤ k) →
    first_came new.arrivals (base + k) ≡ slice_get new.handed k
departs_handed base old new so d k h (inl before) =
    ap (λ l. first_came l (base + k)) d.arrivals ∙ so.handed k before ∙
    sym (get_left old.handed d.front k before) ∙ ap (λ l. slice_get l k) (sym d.handed)
departs_handed base old new so d k h (inr behind) =
    let j : ℕ = k - length old.handed in
    let size : length new.handed ≡ length old.handed + length d.front =
    ap (λ l. length l) d.handed ∙ length-append old.handed d.front in
    let at : base + k ≡ old.number + j = omega (arith, so.number) in
    let is : length old.handed + j ≡ k = omega arith in
    let within : j < length d.front = omega arith in
    ap (λ l. first_came l (base + k)) d.arrivals ∙ ap (λ n. first_came old.arrivals n) at ∙ sym (so.held j) ∙
    ap (λ l. slot l j) d.hands.held ∙ slot_front d.front new.waits.held j within ∙
    sym (get_right old.handed d.front j) ∙ ap (λ n. slice_get (old.handed ++ d.front) n) is ∙
    ap (λ l. slice_get l k) (sym d.handed)

number_more : (a b : ℕ) → sequence_behind (a % 2 ^ 32) b ≡ (a + b) % 2 ^ 32
number_more a zero = ap (λ n. n % 2 ^ 32) (sym (add-zero a))
number_more a (suc b) = omega arith

pub sound_departs : (base : ℕ) (old new : Passage) → IsSound base old → Departs old new → IsSound base new
sound_departs base old new so d =
    let size : length new.handed ≡ length old.handed + length d.front =
    ap (λ l. length l) d.handed ∙ length-append old.handed d.front in
    record {
      least = omega (arith, so.least, d.number);
      number = omega (arith, so.number, d.number, size);
      next = d.hands.next ∙ ap (λ n. sequence_behind n (length d.front)) so.next ∙
          number_more old.number (length d.front) ∙
          ap (λ n. n % 2 ^ 32) (sym d.number);
      handed = λ k h. departs_handed base old new so d k h (cases_lt k (length old.handed));
      held = λ k.
          sym (slot_behind d.front new.waits.held k) ∙ ap (λ l. slot l (length d.front + k)) (sym d.hands.held) ∙
          so.held (length d.front + k) ∙ ap (λ n. first_came old.arrivals n) (at k) ∙
          ap (λ l. first_came l (new.number + k)) (sym d.arrivals);
    }
  where
    at : (k : ℕ) → old.number + (length d.front + k) ≡ new.number + k
    at k = omega (arith, d.number)

sound_step : (base : ℕ) (old new : Passage) → IsSound base old → Arrives old new ⊎ Departs old new → IsSound base new
sound_step base old new so (inl a) = sound_arrives base old new so a
sound_step base old new so (inr d) = sound_departs base old new so d

sound_passage : (base : ℕ) (old : Passage) (later : List Passage) (now : Passage) → IsSound base old →
    HappenInTurn old later now → IsSound base now
sound_passage base old [] now so e = subst (IsSound base) e so
sound_passage base old (next ∷ later) now so h =
    sound_passage base next later now (sound_step base old next so h.0) h.1

pub each_in_order : (base : ℕ) (later : List Passage) (now : Passage) → 2 ^ 32 ≤ base →
    HappenInTurn (begun_passage base) later now → IsFrontOf base now.arrivals now.handed
each_in_order base later now least h =
    (sound_passage base (begun_passage base) later now (sound_begun base least) h).handed

-- where the next octet is missing it is the whole stream
pub whole_of : (base : ℕ) (now : Passage) → IsSound base now → slot now.waits.held 0 ≡ None →
    IsStreamOf base now.arrivals now.handed
whole_of base now so none k within = by (cases_lt k (length now.handed))
  where
    by : (k < length now.handed) ⊎ (length now.handed ≤ k) →
        first_came now.arrivals (base + k) ≡ slice_get now.handed k
    by (inl before) = so.handed k before
    by (inr all) =
        let at : base + k ≡ now.number + 0 = omega (arith, so.number) in
        ap (λ n. first_came now.arrivals n) at ∙ sym (so.held 0) ∙ none ∙ sym (get_past now.handed k all)

pub each_whole : (base : ℕ) (later : List Passage) (now : Passage) → 2 ^ 32 ≤ base →
    HappenInTurn (begun_passage base) later now →
    slot now.waits.held 0 ≡ None → IsStreamOf base now.arrivals now.handed
each_whole base later now least h none =
    whole_of base now (sound_passage base (begun_passage base) later now (sound_begun base least) h) none

-- numbers are found by their sequence numbers
ahead_found : (n m : ℕ) → n ≤ m → m < n + 2 ^ 31 → ahead (n % 2 ^ 32) (m % 2 ^ 32) ≡ m - n
ahead_found n m least near = omega arith

before_found : (n m : ℕ) → m < n → n ≤ m + 2 ^ 31 → ahead (m % 2 ^ 32) (n % 2 ^ 32) ≡ n - m
before_found n m less near = omega arith

before_far : (n m : ℕ) → m < n → n ≤ m + 2 ^ 31 → 2 ^ 31 ≤ ahead (n % 2 ^ 32) (m % 2 ^ 32)
before_far n m less near = omega arith

pub each_found : (n m : ℕ) → m < n + 2 ^ 31 → n ≤ m + 2 ^ 31 → number_near n (m % 2 ^ 32) ≡ m
each_found n m near back = by (cases_lt m n)
  where
    by : (m < n) ⊎ (n ≤ m) → number_near n (m % 2 ^ 32) ≡ m
    by (inl less) =
        let before : ahead (m % 2 ^ 32) (n % 2 ^ 32) ≡ n - m = before_found n m less back in
        let away : n - (n - m) ≡ m = omega arith in
        left_out (nat_lt (ahead (n % 2 ^ 32) (m % 2 ^ 32)) (2 ^ 31)) (n + ahead (n % 2 ^ 32) (m % 2 ^ 32))
        (n - ahead (m % 2 ^ 32) (n % 2 ^ 32))
        (lt_false (ahead (n % 2 ^ 32) (m % 2 ^ 32)) (2 ^ 31) (before_far n m less back)) ∙
        ap (λ k. n - k) before ∙ away
    by (inr least) =
        let found : ahead (n % 2 ^ 32) (m % 2 ^ 32) ≡ m - n = ahead_found n m least near in
        let below : ahead (n % 2 ^ 32) (m % 2 ^ 32) < 2 ^ 31 = omega (arith, found) in
        let there : n + (m - n) ≡ m = omega arith in
        chosen (nat_lt (ahead (n % 2 ^ 32) (m % 2 ^ 32)) (2 ^ 31)) (n + ahead (n % 2 ^ 32) (m % 2 ^ 32))
        (n - ahead (m % 2 ^ 32) (n % 2 ^ 32))
        (lt_true (ahead (n % 2 ^ 32) (m % 2 ^ 32)) (2 ^ 31) below) ∙
        ap (λ k. n + k) found ∙ there
