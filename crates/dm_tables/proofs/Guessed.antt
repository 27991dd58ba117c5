-- The guesses of names, one definition at a time.
use Rattle.std.proofs.Common.{◌≡◌, ◌≢◌, ◌<◌, ◌≤◌, ℕ, zero, suc, Bool, true, false, nat_eq, nat_lt, min, if◌then◌else◌, None, List, [], ◌∷◌, ◌++◌, length, set, get_or, refl, sym, ◌∙◌, ap, arith}
use Rattle.std.proofs.lemmas.Bool.{eqb-true, eq-eqb}
use Rattle.std.proofs.lemmas.List.{get_or-set_same, get_or-set_other, length-set}
use Rattle.std.specs.Cmp.Lexicographic.{same_text}
use Rattle.std.specs.List.{position_from}
use Rattle.dm_tables.specs.declared.def.AvpDef.{AvpDef}
use Rattle.dm_tables.specs.Definitions.{is_named}
use Rattle.dm_tables.specs.Guesses.{slot_of, kept_place, with_guess, AreGuessed}
use Rattle.dm_tables.proofs.Numbers.{place_last}

beyond : (ns : List ℕ) (i : ℕ) → length ns ≤ i → get_or ns i 0 ≡ 0
beyond [] i h = refl
beyond (n ∷ ns) zero h = absurd (omega arith)
beyond (n ∷ ns) (suc i) h = beyond ns i (omega arith)

-- behind an AVP of a slot something is guessed for it
some_guess : (guess place : ℕ) → kept_place guess place ≡ 65535 → ⊥
some_guess guess place = by (nat_eq guess 65535) refl where
  by : (b : Bool) → nat_eq guess 65535 ≡ b → (if b then min place 65534 else guess) ≡ 65535 → ⊥
  by true t e = let low : min place 65534 ≤ 65534 = omega arith in omega arith
  by false t e = let same : nat_eq guess 65535 ≡ true = eq-eqb guess 65535 e in cc

kept_size : (guesses : List ℕ) (slot value : ℕ) (b : Bool)
    → length (if b then set guesses slot value else guesses) ≡ length guesses
kept_size guesses slot value true = length-set guesses slot value
kept_size guesses slot value false = refl

-- of a slot that an AVP takes something is guessed
taken : (guesses : List ℕ) (slot place : ℕ) (b : Bool) → nat_lt slot (length guesses) ≡ b
    → get_or (if b then set guesses slot (kept_place (get_or guesses slot 0) place) else guesses) slot 0 ≡ 65535 → ⊥
taken guesses slot place true t e =
    let low : slot < length guesses = grind (arith, t) in
    let here = get_or-set_same guesses slot (kept_place (get_or guesses slot 0) place) 0 low in
    some_guess (get_or guesses slot 0) place (sym here ∙ e)
taken guesses slot place false t e =
    let high : length guesses ≤ slot = grind (arith, t) in
    let none = beyond guesses slot high in
    omega arith

-- another slot stays as it is
left : (guesses : List ℕ) (slot other value : ℕ) (b : Bool) → other ≢ slot
    → get_or (if b then set guesses slot value else guesses) other 0 ≡ get_or guesses other 0
left guesses slot other value true apart = get_or-set_other guesses slot other value 0 apart
left guesses slot other value false apart = refl

-- one definition more
pub guessed_step : (avps : List AvpDef) (d : AvpDef) (guesses : List ℕ) (name : List ℕ) (place : ℕ) → d.name ≡ name
    → AreGuessed avps guesses → AreGuessed (avps ++ d ∷ []) (with_guess guesses name place)
guessed_step avps d guesses name place named before = λ other none.
    let size : length (with_guess guesses name place) ≡ length guesses =
    kept_size guesses slot value (nat_lt slot (length guesses)) in
    by other (rw size at none) (nat_eq slot (slot_of (length guesses) other)) refl
  where
    slot : ℕ
    slot = slot_of (length guesses) name

    value : ℕ
    value = kept_place (get_or guesses slot 0) place

    by : (other : List ℕ) → get_or (with_guess guesses name place) (slot_of (length guesses) other) 0 ≡ 65535 → (b : Bool)
        → nat_eq slot (slot_of (length guesses) other) ≡ b → position_from (is_named other) 0 (avps ++ d ∷ []) ≡ None
    by other none true t =
        let same : slot ≡ slot_of (length guesses) other = eqb-true slot (slot_of (length guesses) other) t in
        absurd (taken guesses slot place (nat_lt slot (length guesses)) refl (rw (← same) at none))
    by other none false t =
        let apart : slot_of (length guesses) other ≢ slot = λ e.
        (let same : nat_eq slot (slot_of (length guesses) other) ≡ true =
        eq-eqb slot (slot_of (length guesses) other) (sym e) in cc) in
        let kept = left guesses slot (slot_of (length guesses) other) value (nat_lt slot (length guesses)) apart in
        let old = before other (sym kept ∙ none) in
        place_last (is_named other) 0 avps d ∙ rw (old, another (is_named other d) refl) refl
      where
        another : (b : Bool) → is_named other d ≡ b → is_named other d ≡ false
        another false u = u
        another true u =
            let same : other ≡ d.name = same_text other d.name (sym u) in
            let slots : slot ≡ slot_of (length guesses) other = ap (slot_of (length guesses)) (sym (same ∙ named)) in
            let equal = eq-eqb slot (slot_of (length guesses) other) slots in
            cc
