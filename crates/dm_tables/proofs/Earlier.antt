-- Whether a key stands among the first.
use Rattle.std.proofs.Common.{◌≡◌, ◌<◌, ◌≤◌, ℕ, zero, suc, ◌+◌, Bool, true, false, ◌||◌, nat_lt, cond, List, [], ◌∷◌, map, take, Option, None, Some, refl, sym, ap, ◌∙◌, arith}
use Rattle.std.proofs.lemmas.Bool.{lt-ltb, le-ltb}
use Rattle.std.specs.List.{list_any}
use Rattle.std.specs.Map.{lookup}
use Rattle.dm_tables.specs.Positions.{places}
use Rattle.dm_tables.proofs.Places.{lookup-map}

abbrev pub is_below : ℕ → Option ℕ → Bool
is_below n None = false
is_below n (Some k) = nat_lt k n

module _ {D K : Type 0} (test : K → Bool) (key : D → K) where
  no_place : (m : ℕ) (ds : List D) → is_below m (lookup test (places key m ds)) ≡ false
  no_place m [] = refl
  no_place m (d ∷ ds) = by (test (key d)) (lookup test (places key (m + 1) ds)) (no_place (m + 1) ds)
    where
      later : (o : Option ℕ) → is_below (m + 1) o ≡ false → is_below m o ≡ false
      later None h = refl
      later (Some k) h = grind arith

      by : (b : Bool) (o : Option ℕ) → is_below (m + 1) o ≡ false → is_below m (cond b (Some m) o) ≡ false
      by true o h = let same : m ≤ m = omega arith in le-ltb m m same
      by false o h = later o h

  among_from : (m n : ℕ) (ds : List D)
      → is_below (m + n) (lookup test (places key m ds)) ≡ list_any (λ d. test (key d)) (take n ds)
  among_from m zero ds =
      let none : m + 0 ≡ m = omega arith in
      ap (λ x. is_below x (lookup test (places key m ds))) none ∙ no_place m ds
  among_from m (suc n) [] = refl
  among_from m (suc n) (d ∷ ds) =
      by (test (key d)) (among_from (m + 1) n ds)
    where
      by : (b : Bool)
          → is_below (m + 1 + n) (lookup test (places key (m + 1) ds)) ≡ list_any (λ e. test (key e)) (take n ds)
          → is_below (m + suc n) (cond b (Some m) (lookup test (places key (m + 1) ds))) ≡
          (b || list_any (λ e. test (key e)) (take n ds))
      by true h = let less : m < m + suc n = omega arith in lt-ltb m (m + suc n) less
      by false h =
          let same : m + suc n ≡ m + 1 + n = omega arith in
          ap (λ x. is_below x (lookup test (places key (m + 1) ds))) same ∙ h

-- one of the first n has the key
pub among : {A D K : Type 0} (test : K → Bool) (key : D → K) (shown : A → K) (n : ℕ) (ds : List D) (es : List (A × ℕ))
    (o : Option ℕ)
    → map (λ e. (shown e.0, e.1)) es ≡ places key 0 ds → o ≡ lookup (λ a. test (shown a)) es
    → is_below n o ≡ list_any (λ d. test (key d)) (take n ds)
among test key shown n ds es o e at =
    let zero_on : 0 + n ≡ n = omega arith in
    ap (is_below n) (at ∙ sym (lookup-map test shown es) ∙ ap (lookup test) e)
    ∙ ap (λ x. is_below x (lookup test (places key 0 ds))) (sym zero_on) ∙ among_from test key 0 n ds
