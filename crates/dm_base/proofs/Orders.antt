-- The order of two texts, and which precedes the other.
use Rattle.std.proofs.Common.{◌≡◌, ◌<◌, ◌≤◌, ◌⊎◌, inl, inr, ℕ, ◌+◌, Bool, true, false, nat_lt, List, [], ◌∷◌, ◌++◌, length, drop, get_or, if◌then◌else◌, refl, sym, ◌∙◌, ap, arith, add-one}
use Rattle.std.specs.declared.cmp.Ordering.{Ordering}
use Rattle.std.specs.declared.cmp.Ordering.TheVariants.{Less, Equal, Greater}
use Rattle.std.proofs.lemmas.Bool.{ltb-true, ltb-false, le-ltb, lt-ltb}
use Rattle.std.proofs.Math.Seq.{drop-cons}
use Rattle.std.proofs.Math.ListN.{drop_of_length-le}
use Rattle.dm_base.specs.Before.{lower_octet, lower, order_of_hosts, Precedes, Before}

same_first : (a b : ℕ) (s t : List ℕ) → a ≡ b → Precedes s t → Precedes (a ∷ s) (b ∷ t)
same_first a b s t e (inl p) =
    inl (a ∷ p.0, p.1, p.2, p.3, p.4, ap (λ (x : List ℕ). a ∷ x) p.5, rw (← e) (ap (λ (x : List ℕ). a ∷ x) p.6), p.7)
same_first a b s t e (inr p) = inr (p.0, p.1, rw (← e) (ap (λ (x : List ℕ). a ∷ x) p.2))

pub less_precedes : (s t : List ℕ) → order_of_hosts s t ≡ Less → Precedes s t
less_precedes [] [] h = absurd (cc)
less_precedes [] (b ∷ t) h = inr (b, t, refl)
less_precedes (a ∷ s) [] h = absurd (cc)
less_precedes (a ∷ s) (b ∷ t) h = by (nat_lt a b) refl (nat_lt b a) refl h (λ e. less_precedes s t e) where
  by : (x : Bool) → nat_lt a b ≡ x → (y : Bool) → nat_lt b a ≡ y
      → (if x then Less else (if y then Greater else order_of_hosts s t)) ≡ Less → (order_of_hosts s t ≡ Less → Precedes s t)
      → Precedes (a ∷ s) (b ∷ t)
  by true e y g k behind = inl ([], a, b, s, t, refl, refl, ltb-true a b e)
  by false e true g k behind = absurd (cc)
  by false e false g k behind =
      let low = ltb-false a b e in
      let high = ltb-false b a g in
      same_first a b s t (omega arith) (behind k)

not_below : (a : ℕ) → nat_lt a a ≡ false
not_below a = le-ltb a a (omega arith)

front_order : (front s t : List ℕ) → order_of_hosts (front ++ s) (front ++ t) ≡ order_of_hosts s t
front_order [] s t = refl
front_order (a ∷ front) s t = rw (not_below a) (front_order front s t)

pub precedes_less : (s t : List ℕ) → Precedes s t → order_of_hosts s t ≡ Less
precedes_less s t (inl p) =
    let below : nat_lt p.1 p.2 ≡ true = lt-ltb p.1 p.2 p.7 in
    let here : order_of_hosts (p.1 ∷ p.3) (p.2 ∷ p.4) ≡ Less = rw below refl in
    rw (p.5, p.6) (front_order p.0 (p.1 ∷ p.3) (p.2 ∷ p.4) ∙ here)
precedes_less s t (inr p) = rw p.2 (longer s p.0 p.1) where
  longer : (s : List ℕ) (b : ℕ) (y : List ℕ) → order_of_hosts s (s ++ b ∷ y) ≡ Less
  longer [] b y = refl
  longer (a ∷ s) b y = rw (not_below a) (longer s b y)

pub less_turned : (s t : List ℕ) → order_of_hosts s t ≡ Less → order_of_hosts t s ≡ Greater
less_turned [] [] h = absurd (cc)
less_turned [] (b ∷ t) h = refl
less_turned (a ∷ s) [] h = absurd (cc)
less_turned (a ∷ s) (b ∷ t) h = by (nat_lt a b) refl (nat_lt b a) refl h (λ e. less_turned s t e) where
  by : (x : Bool) → nat_lt a b ≡ x → (y : Bool) → nat_lt b a ≡ y
      → (if x then Less else (if y then Greater else order_of_hosts s t)) ≡ Less → (order_of_hosts s t ≡ Less → order_of_hosts t s ≡ Greater)
      → (if y then Less else (if x then Greater else order_of_hosts t s)) ≡ Greater
  by true e true g k behind = let low = ltb-true a b e in let high = ltb-true b a g in absurd (omega arith)
  by true e false g k behind = refl
  by false e true g k behind = absurd (cc)
  by false e false g k behind = behind k

pub greater_turned : (s t : List ℕ) → order_of_hosts s t ≡ Greater → order_of_hosts t s ≡ Less
greater_turned [] [] h = absurd (cc)
greater_turned [] (b ∷ t) h = absurd (cc)
greater_turned (a ∷ s) [] h = refl
greater_turned (a ∷ s) (b ∷ t) h = by (nat_lt a b) refl (nat_lt b a) refl h (λ e. greater_turned s t e) where
  by : (x : Bool) → nat_lt a b ≡ x → (y : Bool) → nat_lt b a ≡ y
      → (if x then Less else (if y then Greater else order_of_hosts s t)) ≡ Greater → (order_of_hosts s t ≡ Greater → order_of_hosts t s ≡ Less)
      → (if y then Less else (if x then Greater else order_of_hosts t s)) ≡ Less
  by true e y g k behind = absurd (cc)
  by false e true g k behind = refl
  by false e false g k behind = behind k

pub equal_same : (s t : List ℕ) → order_of_hosts s t ≡ Equal → s ≡ t
equal_same [] [] h = refl
equal_same [] (b ∷ t) h = absurd (cc)
equal_same (a ∷ s) [] h = absurd (cc)
equal_same (a ∷ s) (b ∷ t) h = by (nat_lt a b) refl (nat_lt b a) refl h (λ e. equal_same s t e) where
  by : (x : Bool) → nat_lt a b ≡ x → (y : Bool) → nat_lt b a ≡ y
      → (if x then Less else (if y then Greater else order_of_hosts s t)) ≡ Equal → (order_of_hosts s t ≡ Equal → s ≡ t) → a ∷ s ≡ b ∷ t
  by true e y g k behind = absurd (cc)
  by false e true g k behind = absurd (cc)
  by false e false g k behind =
      let low = ltb-false a b e in
      let high = ltb-false b a g in
      let first : a ≡ b = omega arith in
      let rest : s ≡ t = behind k in
      cc

pub same_equal : (s t : List ℕ) → s ≡ t → order_of_hosts s t ≡ Equal
same_equal s t e = rw e (itself t) where
  itself : (t : List ℕ) → order_of_hosts t t ≡ Equal
  itself [] = refl
  itself (a ∷ t) = rw (not_below a) (itself t)

pub greater_follows : (s t : List ℕ) → order_of_hosts s t ≡ Greater → Precedes t s
greater_follows s t h = less_precedes t s (greater_turned s t h)

pub follows_greater : (s t : List ℕ) → Precedes t s → order_of_hosts s t ≡ Greater
follows_greater s t h = less_turned t s (precedes_less t s h)

pub one_comes_first : (h k : List ℕ) → (lower h ≡ lower k → ⊥)
    → (Before h k × (Before k h → ⊥)) ⊎ (Before k h × (Before h k → ⊥))
one_comes_first h k differ = by (order_of_hosts (lower h) (lower k)) refl where
  by : (o : Ordering) → order_of_hosts (lower h) (lower k) ≡ o
      → (Before h k × (Before k h → ⊥)) ⊎ (Before k h × (Before h k → ⊥))
  by Less e =
      inl (less_precedes (lower h) (lower k) e, λ b. let g = follows_greater (lower h) (lower k) b in absurd (cc))
  by Equal e = absurd (differ (equal_same (lower h) (lower k) e))
  by Greater e =
      inr (greater_follows (lower h) (lower k) e, λ b. let g = precedes_less (lower h) (lower k) b in absurd (cc))

-- the next octets of both decide, or those behind them
pub next : (s t : List ℕ) (i : ℕ) → i < length s → i < length t → order_of_hosts (lower (drop i s)) (lower (drop i t))
    ≡ (if nat_lt (lower_octet (get_or s i 0)) (lower_octet (get_or t i 0)) then Less
    else (if nat_lt (lower_octet (get_or t i 0)) (lower_octet (get_or s i 0)) then Greater
    else order_of_hosts (lower (drop (i + 1) s)) (lower (drop (i + 1) t))))
next s t i h g = rw (drop-cons s i 0 h, drop-cons t i 0 g, add-one i) refl

-- where one text has ended and the other goes on, it comes first
pub ended_less : (s t : List ℕ) (i : ℕ) → order_of_hosts (lower s) (lower t) ≡ order_of_hosts (lower (drop i s)) (lower (drop i t))
    → length s ≤ i → i < length t → Less ≡ order_of_hosts (lower s) (lower t)
ended_less s t i e h g = sym (e ∙ rw (drop_of_length-le s h, drop-cons t i 0 g) refl)

pub ended_greater : (s t : List ℕ) (i : ℕ) → order_of_hosts (lower s) (lower t) ≡ order_of_hosts (lower (drop i s)) (lower (drop i t))
    → i < length s → i ≡ length t → Greater ≡ order_of_hosts (lower s) (lower t)
ended_greater s t i e h g =
    let k : length t ≤ i = omega arith in sym (e ∙ rw (drop_of_length-le t k, drop-cons s i 0 h) refl)
