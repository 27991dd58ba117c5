-- Names of hosts that are one.
use Rattle.std.proofs.Common.{◌≡◌, ◌⊎◌, inl, inr, ℕ, Bool, true, false, cond, not, nat_lt, List, [], ◌∷◌, Some, None, arith, ap, sym, ◌∙◌, refl}
use Rattle.std.specs.declared.cmp.Ordering.TheVariants.{Less, Greater}
use Rattle.std.proofs.lemmas.Bool.{ltb-false}
use Rattle.dm_base.specs.Before.{lower, order_of_hosts}
use Rattle.dm_base.specs.Fit.{is_name}
use Rattle.dm_peer.specs.declared.fault.ConfigFault.{ConfigFault}
use Rattle.dm_peer.specs.declared.fault.ConfigFault.TheVariants.{BadHost, SameHost, NoMemory}
use Rattle.dm_peer.specs.Hosts.{is_equal, is_same_host, config_fault}

-- texts of which neither comes before the other are one
equal_texts : (s t : List ℕ) → is_equal (order_of_hosts s t) ≡ true → s ≡ t
equal_texts [] [] e = refl
equal_texts [] (b ∷ t) e = absurd (cc)
equal_texts (a ∷ s) [] e = absurd (cc)
equal_texts (a ∷ s) (b ∷ t) e = by (equal_texts s t) (nat_lt a b) refl (nat_lt b a) refl e where
  by : (is_equal (order_of_hosts s t) ≡ true → s ≡ t) → (v : Bool) → nat_lt a b ≡ v → (w : Bool) → nat_lt b a ≡ w
      → is_equal (cond v Less (cond w Greater (order_of_hosts s t))) ≡ true → a ∷ s ≡ b ∷ t
  by later true is w is' k = absurd (cc)
  by later false is true is' k = absurd (cc)
  by later false is false is' k =
      let least = ltb-false a b is in
      let most = ltb-false b a is' in
      let same : a ≡ b = omega (arith, least, most) in
      ap (λ v. v ∷ s) same ∙ ap (λ v. b ∷ v) (later k)

pub same_host : (h k : List ℕ) → is_same_host h k ≡ true → lower h ≡ lower k
same_host h k e = equal_texts (lower h) (lower k) e

differing : (h k : List ℕ) → (lower h ≡ lower k → ⊥) → (b : Bool) → is_same_host h k ≡ b → b ≡ false
differing h k differ true is = absurd (differ (same_host h k is))
differing h k differ false is = refl

-- a node of another name, and a good name: such a configuration isn't refused
pub no_fault : (own other host peer : List ℕ) (f : ConfigFault) → host ≡ own → peer ≡ other → is_name other ≡ true
    → (lower own ≡ lower other → ⊥)
    → (f ≡ NoMemory) ⊎ (config_fault host peer ≡ Some f) → (f ≡ BadHost) ⊎ (f ≡ SameHost) → ⊥
no_fault own other host peer f e k name differ (inl h) (inl g) = let both = sym h ∙ g in cc
no_fault own other host peer f e k name differ (inl h) (inr g) = let both = sym h ∙ g in cc
no_fault own other host peer f e k name differ (inr h) g =
    let apart : is_same_host host peer ≡ false = ap (λ v. is_same_host v peer) e ∙ ap (λ v. is_same_host own v) k ∙
    differing own other differ (is_same_host own other) refl in
    let named : is_name peer ≡ true = ap is_name k ∙ name in
    let none : config_fault host peer ≡ None =
    ap (λ b. cond (not b) (Some BadHost) (cond (is_same_host host peer) (Some SameHost) None)) named ∙ ap
    (λ b. cond b (Some SameHost) None) apart in
    let both = sym none ∙ h in cc
