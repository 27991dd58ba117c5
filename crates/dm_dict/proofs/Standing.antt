-- Under which entry an AVP stands: by the place of its name, and by the definition.
use Rattle.std.proofs.Common.{◌≡◌, ◌<◌, ℕ, zero, suc, ◌+◌, Bool, true, false, nat_eq, Option, None, Some, IfSome, is_some, List, [], ◌∷◌, length, get_or, codes, refl, sym, ◌∙◌, ap, arith, find, slice_get}
use Rattle.std.specs.List.{position_from, list_any}
use Rattle.std.specs.Option.{option_and_then, option_or}
use Rattle.std.specs.Cmp.Lexicographic.{same_text}
use Rattle.std.proofs.lemmas.List.Folds.{list_any_at}
use Rattle.dm_tables.specs.declared.rule.Entry.{Entry}
use Rattle.dm_tables.specs.declared.def.AvpDef.{AvpDef}
use Rattle.dm_dict.specs.Rules.{is_called, names, stands_for_any, counts, entry_for, is_at}
use Rattle.dm_dict.specs.Apart.{AtMostOne, IsApart, IsOwnName}

-- the place of an AVP: where its name stands, else where `AVP` stands
abbrev pub place_of : List Entry → Option AvpDef → Option ℕ
place_of rule f = option_or (position_from (names f) 0 rule) (position_from stands_for_any 0 rule)

same_at : (j : ℕ) → nat_eq (j + 0) j ≡ true
same_at j = grind arith

-- what is found from place j on isn't below j
not_below : (p : Entry → Bool) (es : List Entry) (j k : ℕ) → k < j → is_at (position_from p j es) k ≡ false
not_below p [] j k h = refl
not_below p (e ∷ es) j k h = by (p e) refl (not_below p es (j + 1) k (omega arith)) where
  by : (b : Bool) → p e ≡ b → is_at (position_from p (j + 1) es) k ≡ false
      → is_at (position_from p j (e ∷ es)) k ≡ false
  by true e ih = rw e (grind arith)
  by false e ih = rw e ih

none_at : (p : Entry → Bool) (es : List Entry) (i : ℕ) (d : Entry) → i < length es → list_any p es ≡ false
    → p (get_or es i d) ≡ false
none_at p es i d h n = by (p (get_or es i d)) refl where
  by : (b : Bool) → p (get_or es i d) ≡ b → p (get_or es i d) ≡ false
  by true t = let some = list_any_at p es i d h t in cc
  by false t = t

-- where at most one passes, the place of the first tells of each whether it passes
pub spot : (p : Entry → Bool) (j : ℕ) (es : List Entry) (i : ℕ) (d : Entry) → i < length es → AtMostOne p es
    → is_at (position_from p j es) (j + i) ≡ p (get_or es i d)
spot p j [] i d h a = absurd (omega arith)
spot p j (e ∷ es) zero d h a = by (p e) refl where
  by : (b : Bool) → p e ≡ b → is_at (position_from p j (e ∷ es)) (j + 0) ≡ p e
  by true t = rw t (grind arith)
  by false t = rw t (not_below p es (j + 1) (j + 0) (omega arith))
spot p j (e ∷ es) (suc i) d h a = by (p e) refl (spot p (j + 1) es i d (omega arith) a.1) where
  by : (b : Bool) → p e ≡ b → is_at (position_from p (j + 1) es) (j + 1 + i) ≡ p (get_or es i d)
      → is_at (position_from p j (e ∷ es)) (j + suc i) ≡ p (get_or es i d)
  by true t ih = let none = none_at p es i d (omega arith) (a.0 t) in rw (t, none) (grind arith)
  by false t ih = let same : j + 1 + i ≡ j + suc i = omega arith in rw t (rw same at ih)

-- what is found stands among them
stands_behind : {A : Type 0} (p : A → Bool) (j : ℕ) (es : List A)
    → IfSome (position_from p j es) (λ i. i < j + length es)
stands_behind p j [] = tt
stands_behind p j (e ∷ es) = by (p e) refl (stands_behind p (j + 1) es) where
  further : (o : Option ℕ) → IfSome o (λ i. i < j + 1 + length es) → IfSome o (λ i. i < j + length (e ∷ es))
  further None h = tt
  further (Some i) h = omega (arith, h)

  by : (b : Bool) → p e ≡ b → IfSome (position_from p (j + 1) es) (λ i. i < j + 1 + length es)
      → IfSome (position_from p j (e ∷ es)) (λ i. i < j + length (e ∷ es))
  by true t ih = rw t (omega arith)
  by false t ih = rw t (further (position_from p (j + 1) es) ih)

pub stands_within : {A : Type 0} (p : A → Bool) (es : List A)
    → IfSome (position_from p 0 es) (λ i. i < length es)
stands_within p es =
    let same : 0 + length es ≡ length es = omega arith in rw same at (stands_behind p 0 es)

-- so does the first of two that is found
pub one_within : (o q : Option ℕ) (n : ℕ) → IfSome o (λ i. i < n) → IfSome q (λ i. i < n)
    → IfSome (option_or o q) (λ i. i < n)
one_within None q n h k = k
one_within (Some i) q n h k = h

-- something is found where an entry passes
pub is_found : {A : Type 0} (p : A → Bool) (j : ℕ) (es : List A) → is_some (position_from p j es) ≡ list_any p es
is_found p j [] = refl
is_found p j (e ∷ es) = by (p e) refl (is_found p (j + 1) es) where
  by : (b : Bool) → p e ≡ b → is_some (position_from p (j + 1) es) ≡ list_any p es
      → is_some (position_from p j (e ∷ es)) ≡ list_any p (e ∷ es)
  by true t ih = rw t refl
  by false t ih = rw t ih

pub is_seen : {A : Type 0} (p : A → Bool) (es : List A) → is_some (find p es) ≡ list_any p es
is_seen p [] = refl
is_seen p (e ∷ es) = by (p e) refl (is_seen p es) where
  by : (b : Bool) → p e ≡ b → is_some (find p es) ≡ list_any p es → is_some (find p (e ∷ es)) ≡ list_any p (e ∷ es)
  by true t ih = rw t refl
  by false t ih = rw t ih

-- what is found stands at its place
found_at : {A : Type 0} (p : A → Bool) (es : List A) (j : ℕ) (all : List A)
    → ((i : ℕ) → slice_get es i ≡ slice_get all (j + i))
    → option_and_then (slice_get all) (position_from p j es) ≡ find p es
found_at p [] j all h = refl
found_at p (e ∷ es) j all h = by (p e) refl (found_at p es (j + 1) all (λ i. behind i)) where
  behind : (i : ℕ) → slice_get es i ≡ slice_get all (j + 1 + i)
  behind i = let same : j + suc i ≡ j + 1 + i = omega arith in rw same at (h (suc i))

  by : (b : Bool) → p e ≡ b → option_and_then (slice_get all) (position_from p (j + 1) es) ≡ find p es
      → option_and_then (slice_get all) (position_from p j (e ∷ es)) ≡ find p (e ∷ es)
  by true t ih = let same : j + 0 ≡ j = omega arith in rw t (sym (rw same at (h 0)))
  by false t ih = rw t ih

pub found : {A : Type 0} (p : A → Bool) (es : List A)
    → option_and_then (slice_get es) (position_from p 0 es) ≡ find p es
found p es = found_at p es 0 es (λ i. let same : 0 + i ≡ i = omega arith in rw same refl)

-- an AVP without definition has no name
pub none_named : (j : ℕ) (es : List Entry) → None ≡ position_from (names None) j es
none_named j [] = refl
none_named j (e ∷ es) = none_named (j + 1) es

-- the entry at the place of an AVP
pub entry_at_place : (rule : List Entry) (f : Option AvpDef) (p q : Option ℕ) → p ≡ position_from (names f) 0 rule
    → q ≡ position_from stands_for_any 0 rule → option_and_then (slice_get rule) (option_or p q) ≡ entry_for rule f
entry_at_place rule f None q e g =
    let named : None ≡ find (names f) rule = ap (option_and_then (slice_get rule)) e ∙ found (names f) rule in
    let any : option_and_then (slice_get rule) q ≡ find stands_for_any rule = ap (option_and_then (slice_get rule)) g
    ∙ found stands_for_any rule in
    rw (← named) any
entry_at_place rule f (Some i) q e g = by (find (names f) rule) refl where
  named : slice_get rule i ≡ find (names f) rule
  named = ap (option_and_then (slice_get rule)) e ∙ found (names f) rule

  by : (o : Option Entry) → find (names f) rule ≡ o → slice_get rule i ≡ entry_for rule f
  by None n =
      let some : true ≡ list_any (names f) rule = ap is_some e ∙ is_found (names f) 0 rule in
      let none : is_some (find (names f) rule) ≡ list_any (names f) rule = is_seen (names f) rule in
      let false_one : is_some (find (names f) rule) ≡ false = ap is_some n in
      cc
  by (Some x) n = named ∙ rw n refl

none_passes : (es : List Entry) → AtMostOne (names None) es
none_passes [] = tt
none_passes (e ∷ es) = (λ h. cc, none_passes es)

one_named : (f : Option AvpDef) (rule : List Entry) → IsApart rule → AtMostOne (names f) rule
one_named None rule a = none_passes rule
one_named (Some d) rule a = a d.name

-- `AVP` names nothing
not_both : (f : Option AvpDef) (e : Entry) → IfSome f (λ d. IsOwnName d.name) → stands_for_any e ≡ true
    → names f e ≡ false
not_both None e own any = refl
not_both (Some d) e own any = by (is_called d.name e) refl where
  by : (b : Bool) → is_called d.name e ≡ b → is_called d.name e ≡ false
  by true t =
      let same : d.name ≡ e.name = same_text d.name e.name (sym t) in
      let called : is_called (codes "AVP") e ≡ false = rw same at own in
      cc
  by false t = t

-- the place of an AVP tells of each entry whether it counts the AVP
pub counts_at_place : (rule : List Entry) (f : Option AvpDef) (p q : Option ℕ) → IsApart rule
    → IfSome f (λ d. IsOwnName d.name) → p ≡ position_from (names f) 0 rule → q ≡ position_from stands_for_any 0 rule
    → (i : ℕ) (e : Entry) → i < length rule → e ≡ get_or rule i e → is_at (option_or p q) i ≡ counts rule e f
counts_at_place rule f p q apart own pe qe i e h at = by (stands_for_any e) refl p pe where
  from_zero : 0 + i ≡ i
  from_zero = omega arith

  named : is_at (position_from (names f) 0 rule) i ≡ names f e
  named = (rw from_zero at (spot (names f) 0 rule i e h (one_named f rule apart))) ∙ ap (names f) (sym at)

  any : is_at q i ≡ stands_for_any e
  any = ap (λ o. is_at o i) qe ∙ (rw from_zero at (spot stands_for_any 0 rule i e h (apart (codes "AVP")))) ∙
      ap stands_for_any (sym at)

  some : is_some (position_from (names f) 0 rule) ≡ list_any (names f) rule
  some = is_found (names f) 0 rule

  by : (b : Bool) → stands_for_any e ≡ b → (o : Option ℕ) → o ≡ position_from (names f) 0 rule
      → is_at (option_or o q) i ≡ counts rule e f
  by true t None oe = let none : false ≡ list_any (names f) rule = ap is_some oe ∙ some in rw (t, ← none) (any ∙ t)
  by false t None oe = rw t (any ∙ t ∙ ap (λ o. is_at o i) oe ∙ named)
  by true t (Some k) oe =
      let here : true ≡ list_any (names f) rule = ap is_some oe ∙ some in
      let other = not_both f e own t in
      rw (t, ← here) (ap (λ o. is_at o i) oe ∙ named ∙ other)
  by false t (Some k) oe = rw t (ap (λ o. is_at o i) oe ∙ named)
