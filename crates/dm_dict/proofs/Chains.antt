-- The first fault of lists of faults, one after the other.
use Rattle.std.proofs.Common.{◌≡◌, ◌<◌, ◌≤◌, ℕ, zero, suc, ◌+◌, Option, None, Some, List, [], ◌∷◌, ◌++◌, length, get_or, drop, flat_map, refl, sym, ◌∙◌, arith, append_assoc, Bool, true, false, if◌then◌else◌, min, slice_index, slice_index_or}
use Rattle.dm_wire.specs.declared.avp.Avp.{Avp}
use Rattle.dm_tables.specs.declared.rule.Entry.{Entry}
use Rattle.dm_tables.specs.declared.def.AvpDef.{AvpDef}
use Rattle.dm_dict.specs.Rules.{definition, counts, count, is_at}
use Rattle.dm_dict.specs.Faults.{Fault, first, avp_faults}
use Rattle.dm_dict.specs.Counters.{IsCountedBut}

-- the element at i, and what is behind it
pub element : {A : Type 0} (xs : List A) (i : ℕ) → i < length xs
    → (x : A) × (x ≡ get_or xs i x) × (drop i xs ≡ x ∷ drop (i + 1) xs)
element [] i h = absurd (omega arith)
element (x ∷ xs) zero h = (x, refl, refl)
element (x ∷ xs) (suc i) h =
    let (y, at, cut) = element xs i (omega arith) in
    let next : suc i + 1 ≡ suc (i + 1) = omega arith in
    (y, at, rw next cut)

pub bad_step : (fs gs : List Fault) (f : Fault) → Some f ≡ first fs → first (fs ++ gs) ≡ Some f
bad_step [] gs f h = absurd (cc)
bad_step (g ∷ fs) gs f h = sym h

pub good_step : (fs gs : List Fault) → None ≡ first fs → first (fs ++ gs) ≡ first gs
good_step [] gs h = refl
good_step (g ∷ fs) gs h = absurd (cc)

-- a bad element of a list, where those before it are good
pub bad_element : {A : Type 0} (F : A → List Fault) (xs : List A) (o : Option Fault) (i : ℕ) (f : Fault)
    → i < length xs → o ≡ first (flat_map F (drop i xs)) → ((x : A) → x ≡ get_or xs i x → Some f ≡ first (F x))
    → o ≡ Some f
bad_element F xs o i f h e bad =
    let (x, at, cut) = element xs i h in
    e ∙ (rw cut (bad_step (F x) (flat_map F (drop (i + 1) xs)) f (bad x at)))

-- a good one
pub good_element : {A : Type 0} (F : A → List Fault) (xs : List A) (o : Option Fault) (i : ℕ) → i < length xs
    → o ≡ first (flat_map F (drop i xs)) → ((x : A) → x ≡ get_or xs i x → None ≡ first (F x))
    → o ≡ first (flat_map F (drop (i + 1) xs))
good_element F xs o i h e good =
    let (x, at, cut) = element xs i h in
    e ∙ (rw cut (good_step (F x) (flat_map F (drop (i + 1) xs)) (good x at)))

-- the first of a list of AVPs is good
pub good_member : (A : Avp → List Fault) (C : List Fault) (o : Option Fault) (a : Avp) (m k : List Avp)
    → o ≡ first (flat_map A m ++ C) → m ≡ a ∷ k → None ≡ first (A a) → o ≡ first (flat_map A k ++ C)
good_member A C o a m k e is good =
    e ∙ (rw (is, append_assoc (A a) (flat_map A k) C) (good_step (A a) (flat_map A k ++ C) good))

-- the faults of an AVP, by what was looked up
pub looked_up : (G : List Entry → Avp → List Fault) (b c : Bool) (a : Avp) (f : Option AvpDef) (o : Option Fault)
    → b ≡ c → o ≡ first (avp_faults G b a f) → o ≡ first (avp_faults G c a f)
looked_up G b c a f o eb h = rw (← eb) h

-- one AVP more is counted
pub counted_step : (avps : List AvpDef) (rule : List Entry) (all m k : List Avp) (a : Avp) (start : ℕ)
    (old new : List ℕ) (at : Option ℕ) → length new ≡ length old → IsCountedBut avps rule all m start old → m ≡ a ∷ k →
    ((i : ℕ) → i < length new → slice_index new i ≡
    (if is_at at (start + i) then min (slice_index old i + 1) 65535 else slice_index old i)) →
    ((i : ℕ) (e : Entry) → i < length rule → e ≡ slice_index_or rule i e →
    is_at at i ≡ counts rule e (definition avps a)) → IsCountedBut avps rule all k start new
counted_step avps rule all m k a start old new at size before_one is one place = λ i e b w here.
    let (most, sum) = before_one i e (omega (arith, size, b)) w here in
    by i e (counts rule e (definition avps a)) refl (one i b) (place (start + i) e w here) most (rw is at sum)
  where
    by : (i : ℕ) (e : Entry) (t : Bool) → counts rule e (definition avps a) ≡ t
        → slice_index new i ≡ (if is_at at (start + i) then min (slice_index old i + 1) 65535 else slice_index old i)
        → is_at at (start + i) ≡ counts rule e (definition avps a) → slice_index old i ≤ 65535
        → min (slice_index old i + count avps rule (a ∷ k) e) 65535 ≡ min (count avps rule all e) 65535
        → (slice_index new i ≤ 65535) ×
        (min (slice_index new i + count avps rule k e) 65535 ≡ min (count avps rule all e) 65535)
    by i e true t n p most o =
        let plus : slice_index new i ≡ min (slice_index old i + 1) 65535 = n ∙ rw
        (p, t) refl in let whole = rw t at o in (omega arith, omega arith)
    by i e false t n p most o =
        let same : slice_index new i ≡ slice_index old i = n ∙ rw
        (p, t) refl in let whole = rw t at o in (omega arith, omega arith)
