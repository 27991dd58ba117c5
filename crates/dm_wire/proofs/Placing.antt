-- The places of AVPs, one after the other.
use Rattle.std.proofs.Common.{◌≡◌, ◌<◌, ◌≤◌, ◌+◌, ◌-◌, ℕ, zero, suc, Bool, false, Some, None, Option, option_map, List, [], ◌∷◌, ◌++◌, length, drop, get_or, true, nat_lt, refl, sym, ◌∙◌, ap, arith}
use Rattle.std.proofs.lemmas.List.{length-drop, drop-drop, length-append, get_or_append_left, get_or_at}
use Rattle.std.proofs.lemmas.Bool.Decides.{nat_tests}
use Rattle.std.specs.List.{slice_get, find}
use Rattle.dm_wire.specs.declared.avp.Avp.{Avp}
use Rattle.dm_wire.specs.Members.{avp_at, begins_with_avp, members}
use Rattle.dm_wire.specs.Held.{ArePlaces}
use Rattle.dm_wire.proofs.Members.{members_nil, members_stop, members_end}

-- the places of so many of the AVPs, and what is left begins at the offset
pub record ArePlacesSoFar (places : List ℕ) (avps : List Avp) (octets : List ℕ) (offset : ℕ) : Type 0 where
  pub few : length places ≤ length avps
  pub left : members (drop offset octets) ≡ Some (drop (length places) avps)
  pub begins : (i : ℕ) → i < length places → members (drop (get_or places i 0) octets) ≡ Some (drop i avps)

-- before the first
pub none_so_far : (avps : List Avp) (octets : List ℕ) → members octets ≡ Some avps
    → ArePlacesSoFar [] avps octets 0
none_so_far avps octets e = record { few = omega arith; left = e; begins = λ i h. absurd (omega arith) }

-- an AVP begins what is left: it is the first of those left
first_left : (a : Avp) (o : Option (List Avp)) (n : ℕ) (avps : List Avp) →
    option_map (λ l. a ∷ l) o ≡ Some (drop n avps) → n ≤ length avps →
    (n < length avps) × (o ≡ Some (drop (suc n) avps))
first_left a None n avps e h = absurd (cc)
first_left a (Some l) n avps e h =
    let whole : a ∷ l ≡ drop n avps = cc in
    let size : length (drop n avps) ≡ suc (length l) = ap length (sym whole) in
    let counted = length-drop n avps in
    let behind : drop 1 (drop n avps) ≡ l = ap (drop 1) (sym whole) in
    let next : n + 1 ≡ suc n = omega arith in
    (omega (arith, size, counted), ap Some (sym behind ∙ drop-drop 1 n avps ∙ ap (λ k. drop k avps) next))

-- the place of one more
pub one_more : (places : List ℕ) (avps : List Avp) (octets : List ℕ) (offset size : ℕ) →
    ArePlacesSoFar places avps octets offset →
    members (drop offset octets) ≡ option_map (λ l. avp_at (drop offset octets) ∷ l) (members (drop size (drop offset octets))) →
    ArePlacesSoFar (places ++ offset ∷ []) avps octets (offset + size)
one_more places avps octets offset size so first =
    let n = length places in
    let more = first_left (avp_at (drop offset octets)) (members (drop size (drop offset octets))) n avps
    (sym first ∙ so.left) so.few in
    let long : length (places ++ offset ∷ []) ≡ suc n = length-append places (offset ∷ []) ∙ omega arith in
    record {
      few = omega (arith, long, more.0);
      left = rw long (rw (drop-drop size offset octets) at more.1);
      begins = λ i h. by i (nat_lt i n) refl (omega (arith, long, h));
    }
  where
    by : (i : ℕ) (b : Bool) → nat_lt i (length places) ≡ b → i < suc (length places) →
        members (drop (get_or (places ++ offset ∷ []) i 0) octets) ≡ Some (drop i avps)
    by i true e h =
        let below : i < length places = grind (arith, nat_tests) in
        rw (get_or_append_left places (offset ∷ []) 0 i below) (so.begins i below)
    by i false e h =
        let at : length places ≡ i = grind (arith, nat_tests) in
        rw (get_or_at places offset [] 0 i at) (rw at at so.left)

-- where no AVP begins what is left, all have their places
pub all_placed : (places : List ℕ) (avps : List Avp) (octets : List ℕ) (offset : ℕ) →
    ArePlacesSoFar places avps octets offset → begins_with_avp (drop offset octets) ≡ false → ArePlaces places avps octets
all_placed places avps octets offset so stop = by (drop offset octets) refl where
  by : (left : List ℕ) → drop offset octets ≡ left → ArePlaces places avps octets
  by [] e =
      let nil : Some [] ≡ Some (drop (length places) avps) = sym members_nil ∙ (rw e at so.left) in
      let none : [] ≡ drop (length places) avps = cc in
      let size : 0 ≡ length avps - length places = ap length none ∙ length-drop (length places) avps in
      record { each_has_one = omega (arith, size, so.few); begins = so.begins }
  by (x ∷ s) e =
      absurd (let none : members (x ∷ s) ≡ None = members_stop (x ∷ s) (omega arith) (rw e at stop) in
      let some = rw e at so.left in cc)

-- no AVP stands behind the end
pub none_behind : (place : ℕ) (octets : List ℕ) (avps : List Avp) → length octets ≤ place →
    members (drop place octets) ≡ Some avps → None ≡ slice_get avps 0
none_behind place octets avps h e =
    let nil : Some [] ≡ Some avps = sym (members_end octets place h) ∙ e in
    let none : [] ≡ avps = cc in
    ap (λ l. slice_get l 0) none

-- nor where none begins
pub none_begins : (left : List ℕ) (avps : List Avp) → begins_with_avp left ≡ false → members left ≡ Some avps →
    None ≡ slice_get avps 0
none_begins [] avps stop e =
    let nil : Some [] ≡ Some avps = sym members_nil ∙ e in
    let none : [] ≡ avps = cc in
    ap (λ l. slice_get l 0) none
none_begins (x ∷ s) avps stop e =
    absurd (let none : members (x ∷ s) ≡ None = members_stop (x ∷ s) (omega arith) stop in cc)

-- where one begins it is the first
pub first_begins : (a : Avp) (o : Option (List Avp)) (avps : List Avp) → option_map (λ l. a ∷ l) o ≡ Some avps →
    Some a ≡ slice_get avps 0
first_begins a None avps e = absurd (cc)
first_begins a (Some l) avps e = let whole : a ∷ l ≡ avps = cc in ap (λ k. slice_get k 0) whole

-- the AVP of a number is the first of those from its place on
pub numbered : {X : Type 0} (i : ℕ) (l : List X) → slice_get (drop i l) 0 ≡ slice_get l i
numbered zero l = refl
numbered (suc i) [] = refl
numbered (suc i) (x ∷ l) = numbered i l

-- what is looked for isn't the first: it is looked for behind that
pub passed : {X : Type 0} (p : X → Bool) (l : List X) (x : X) → Some x ≡ slice_get l 0 → p x ≡ false →
    find p l ≡ find p (drop 1 l)
passed p [] x e other_is = absurd (cc)
passed p (y ∷ l) x e other_is =
    let same : x ≡ y = cc in
    let other : p y ≡ false = rw same at other_is in
    rw other refl

-- nor is there a first
pub passed_end : {X : Type 0} (p : X → Bool) (l : List X) → None ≡ slice_get l 0 → find p l ≡ find p (drop 1 l)
passed_end p [] e = refl
passed_end p (y ∷ l) e = absurd (cc)

-- it is the first
pub met : {X : Type 0} (p : X → Bool) (l : List X) (x : X) → Some x ≡ slice_get l 0 → p x ≡ true → find p l ≡ Some x
met p [] x e it_is = absurd (cc)
met p (y ∷ l) x e it_is =
    let same : x ≡ y = cc in
    let it : p y ≡ true = rw same at it_is in
    rw (it, same) refl
