-- What connections hold in all, where one of them changed, came or went.
use Rattle.std.proofs.Common.{◌≡◌, ◌≤◌, ◌<◌, ℕ, zero, suc, ◌+◌, ◌-◌, ◌*◌, ◌^◌, Bool, true, false, Option, None, Some, List, [], ◌∷◌, ◌++◌, length, take, slice_get, refl, sym, ◌∙◌, ap, arith}
use Rattle.std.specs.Option.{option_map_or}
use Rattle.std.specs.Map.{lookup, lookup_entry, remove_entry, set_value}
use Rattle.lru.specs.LruCache.{promoted}
use Rattle.lru.proofs.CallerLemmas.{Contains-lookup_entry}
use Rattle.dm_connections.specs.declared.ends.Ends.{Ends}
use Rattle.dm_connections.specs.Held.{HeldByEnds, all_octets}

abbrev Entry : Type 0 → Type 0
Entry C = Ends × C

-- one connection is another one now
pub sum_set : {C : Type 0} (held_in : C → ℕ) (test : Ends → Bool) (held : HeldByEnds C) (c w : C) →
    lookup test held ≡ Some c →
    all_octets held_in (set_value test held w) + held_in c ≡ all_octets held_in held + held_in w
sum_set {C = C} held_in test [] c w h = cc
sum_set {C = C} held_in test (e ∷ held) c w h = by (test e.0) refl (λ there. sum_set held_in test held c w there)
  where
    by : (b : Bool) → test e.0 ≡ b →
        (lookup test held ≡ Some c →
        all_octets held_in (set_value test held w) + held_in c ≡ all_octets held_in held + held_in w) →
        all_octets held_in (set_value test (e ∷ held) w) + held_in c ≡ all_octets held_in (e ∷ held) + held_in w
    by true is rest =
        let there = rw is at h in
        let found : e.1 ≡ c = cc in
        let same = ap held_in found in
        rw is (omega (arith, same))
    by false is rest =
        let others = rest (rw is at h) in
        rw is (omega (arith, others))

-- what one of them holds is a part of it
pub sum_part : {C : Type 0} (held_in : C → ℕ) (test : Ends → Bool) (held : HeldByEnds C) (c : C) →
    lookup test held ≡ Some c →
    held_in c ≤ all_octets held_in held
sum_part {C = C} held_in test [] c h = cc
sum_part {C = C} held_in test (e ∷ held) c h = by (test e.0) refl (λ there. sum_part held_in test held c there)
  where
    by : (b : Bool) → test e.0 ≡ b → (lookup test held ≡ Some c → held_in c ≤ all_octets held_in held) →
        held_in c ≤ all_octets held_in (e ∷ held)
    by true is rest =
        let there = rw is at h in
        let found : e.1 ≡ c = cc in
        let same = ap held_in found in
        omega (arith, same)
    by false is rest =
        let others = rest (rw is at h) in
        omega (arith, others)

-- one goes first
sum_removed : {C : Type 0} (held_in : C → ℕ) (test : Ends → Bool) (held : HeldByEnds C) (e : Entry C) →
    lookup_entry test held ≡ Some e →
    held_in e.1 + all_octets held_in (remove_entry test held) ≡ all_octets held_in held
sum_removed {C = C} held_in test [] e h = cc
sum_removed {C = C} held_in test (f ∷ held) e h = by (test f.0) refl (λ there. sum_removed held_in test held e there)
  where
    by : (b : Bool) → test f.0 ≡ b →
        (lookup_entry test held ≡ Some e →
        held_in e.1 + all_octets held_in (remove_entry test held) ≡ all_octets held_in held) →
        held_in e.1 + all_octets held_in (remove_entry test (f ∷ held)) ≡ all_octets held_in (f ∷ held)
    by true is rest =
        let there = rw is at h in
        let found : f ≡ e = cc in
        let same = ap (λ (g : Entry C). held_in g.1) found in
        rw is (omega (arith, same))
    by false is rest =
        let others = rest (rw is at h) in
        rw is (omega (arith, others))

pub sum_promoted : {C : Type 0} (held_in : C → ℕ) (test : Ends → Bool) (held : HeldByEnds C) →
    all_octets held_in (promoted test held) ≡ all_octets held_in held
sum_promoted {C = C} held_in test held = by (lookup_entry test held) refl
  where
    by : (o : Option (Entry C)) → lookup_entry test held ≡ o →
        all_octets held_in (option_map_or (λ e. e ∷ remove_entry test held) o held) ≡ all_octets held_in held
    by None is = refl
    by (Some e) is = sum_removed held_in test held e is

found_first : {C : Type 0} (test : Ends → Bool) (held : HeldByEnds C) (e : Entry C) → lookup_entry test held ≡ Some e →
    lookup test (e ∷ remove_entry test held) ≡ lookup test held
found_first {C = C} test [] e h = cc
found_first {C = C} test (f ∷ held) e h = by (test f.0) refl (λ there. found_first test held e there)
  where
    by : (b : Bool) → test f.0 ≡ b →
        (lookup_entry test held ≡ Some e → lookup test (e ∷ remove_entry test held) ≡ lookup test held) →
        lookup test (e ∷ remove_entry test (f ∷ held)) ≡ lookup test (f ∷ held)
    by true is rest =
        let there = rw is at h in
        let found : f ≡ e = cc in
        let passes = (Contains-lookup_entry test (f ∷ held) e h).1 in
        rw (passes, is) (ap (λ (g : Entry C). Some g.1) (sym found))
    by false is rest =
        let there = rw is at h in
        let passes = (Contains-lookup_entry test held e there).1 in
        let others = rest there in
        let front = rw passes at others in
        rw (passes, is) front

-- the same connection is found there
pub found_promoted : {C : Type 0} (test : Ends → Bool) (held : HeldByEnds C) →
    lookup test (promoted test held) ≡ lookup test held
found_promoted {C = C} test held = by (lookup_entry test held) refl
  where
    by : (o : Option (Entry C)) → lookup_entry test held ≡ o →
        lookup test (option_map_or (λ e. e ∷ remove_entry test held) o held) ≡ lookup test held
    by None is = refl
    by (Some e) is = found_first test held e is

-- one is heard
pub sum_heard : {C : Type 0} (held_in : C → ℕ) (test : Ends → Bool) (held : HeldByEnds C) (c w : C) →
    lookup test held ≡ Some c →
    all_octets held_in (set_value test (promoted test held) w) + held_in c ≡ all_octets held_in held + held_in w
sum_heard held_in test held c w h =
    let set = sum_set held_in test (promoted test held) c w (found_promoted test held ∙ h) in
    let same = sum_promoted held_in test held in
    omega (arith, set, same)

-- the last one goes
pub sum_append : {C : Type 0} (held_in : C → ℕ) (held : HeldByEnds C) (e : Entry C) →
    all_octets held_in (held ++ e ∷ []) ≡ all_octets held_in held + held_in e.1
sum_append held_in [] e = omega arith
sum_append held_in (f ∷ held) e = let rest = sum_append held_in held e in omega (arith, rest)

last_at : {X : Type 0} (xs : List X) (n : ℕ) (x : X) → length xs ≡ suc n → slice_get xs n ≡ Some x →
    xs ≡ take n xs ++ x ∷ []
last_at [] n x len h = cc
last_at (y ∷ []) zero x len h = let same : y ≡ x = cc in ap (λ z. z ∷ []) same
last_at (y ∷ z ∷ xs) zero x len h = absurd (omega arith)
last_at (y ∷ []) (suc n) x len h = absurd (omega arith)
last_at (y ∷ z ∷ xs) (suc n) x len h = ap (λ l. y ∷ l) (last_at (z ∷ xs) n x (omega arith) h)

pub last_cut : {X : Type 0} (xs : List X) (x : X) → slice_get xs (length xs - 1) ≡ Some x →
    xs ≡ take (length xs - 1) xs ++ x ∷ []
last_cut [] x h = cc
last_cut (y ∷ xs) x h = last_at (y ∷ xs) (length (y ∷ xs) - 1) x (omega arith) h

last_is : {X : Type 0} (x : X) (xs : List X) (n : ℕ) → length (x ∷ xs) ≡ suc n →
    (y : X) × (slice_get (x ∷ xs) n ≡ Some y)
last_is x [] zero len = (x, refl)
last_is x [] (suc n) len = absurd (omega arith)
last_is x (y ∷ xs) zero len = absurd (omega arith)
last_is x (y ∷ xs) (suc n) len = last_is y xs n (omega arith)

-- there is no last one where there is none
pub no_last : {X : Type 0} (xs : List X) → slice_get xs (length xs - 1) ≡ None → xs ≡ []
no_last [] h = refl
no_last (x ∷ xs) h = let last = last_is x xs (length (x ∷ xs) - 1) (omega arith) in let is = last.1 in cc

-- where it's among the first so many, all are
pub all_taken : {X : Type 0} (n : ℕ) (xs : List X) → length xs ≤ n → take n xs ≡ xs
all_taken zero [] h = refl
all_taken (suc n) [] h = refl
all_taken zero (x ∷ xs) h = absurd (omega arith)
all_taken (suc n) (x ∷ xs) h = ap (λ l. x ∷ l) (all_taken n xs (omega arith))

-- they hold fewer than so many each
pub sum_most : {C : Type 0} (held_in : C → ℕ) (held : HeldByEnds C) → ((c : C) → held_in c < 2 ^ 64) →
    all_octets held_in held ≤ length held * 18446744073709551615
sum_most held_in [] fits = omega arith
sum_most held_in (e ∷ held) fits =
    let rest = sum_most held_in held fits in
    let one = fits e.1 in
    omega (arith, rest, one)

pub sum_fits : {C : Type 0} (held_in : C → ℕ) (held : HeldByEnds C) → ((c : C) → held_in c < 2 ^ 64) →
    length held < 2 ^ 63 → all_octets held_in held + 2 ^ 64 ≤ 2 ^ 128
sum_fits held_in held fits few = let most = sum_most held_in held fits in omega (arith, most)
