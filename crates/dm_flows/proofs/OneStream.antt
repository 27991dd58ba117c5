-- Arrivals have one stream, whatever their order where they agree.
use Rattle.std.proofs.Common.{◌≡◌, ◌≤◌, ℕ, zero, suc, ◌+◌, Option, None, Some, List, [], ◌∷◌, length, slice_get, refl, sym, ◌∙◌, ap, arith}
use Rattle.dm_flows.specs.Windows.{Arrival, octet_of, first_known}
use Rattle.dm_flows.specs.Order.{first_came, IsStreamOf, IsAmongArrivals, AgreeOnOctets}
use Rattle.dm_flows.proofs.OneLink.{same_some, none_some}

-- lists that have the same at each place up to their ends
same_gets : (s t : List ℕ) → ((k : ℕ) → k ≤ length s → k ≤ length t → slice_get s k ≡ slice_get t k) → s ≡ t
same_gets [] [] h = refl
same_gets [] (y ∷ t) h = absurd (none_some y (h 0 (omega arith) (omega arith)))
same_gets (x ∷ s) [] h = absurd (none_some x (sym (h 0 (omega arith) (omega arith))))
same_gets (x ∷ s) (y ∷ t) h =
    let first : x ≡ y = same_some x y (h 0 (omega arith) (omega arith)) in
    let later : s ≡ t = same_gets s t (λ k a b. h (suc k) (omega arith) (omega arith)) in
    ap (λ n. n ∷ s) first ∙ ap (λ l. y ∷ l) later

-- streams of the same first octets are the same
same_firsts : (base : ℕ) (arrivals others : List Arrival) (s t : List ℕ) →
    ((k : ℕ) → first_came arrivals k ≡ first_came others k) → IsStreamOf base arrivals s → IsStreamOf base others t →
    s ≡ t
same_firsts base arrivals others s t same h i =
    same_gets s t (λ k a b. sym (h k a) ∙ same (base + k) ∙ i k b)

pub one_stream : (base : ℕ) (arrivals : List Arrival) (s t : List ℕ) → IsStreamOf base arrivals s →
    IsStreamOf base arrivals t → s ≡ t
one_stream base arrivals s t h i = same_firsts base arrivals arrivals s t (λ k. refl) h i

-- the first is one of those that came
pub record IsFoundIn (arrivals : List Arrival) (k x : ℕ) : Type 0 where
  pub arrival : Arrival
  pub among : IsAmongArrivals arrivals arrival
  pub has : octet_of arrival k ≡ Some x

found_later : (a : Arrival) (arrivals : List Arrival) (k x : ℕ) → IsFoundIn arrivals k x → IsFoundIn (a ∷ arrivals) k x
found_later a arrivals k x h = record {
  arrival = h.arrival;
  among = (suc h.among.0, h.among.1);
  has = h.has;
}

found_by : (a : Arrival) (arrivals : List Arrival) (k x : ℕ) (o : Option ℕ) → octet_of a k ≡ o →
    (first_came arrivals k ≡ Some x → IsFoundIn arrivals k x) → first_known o (first_came arrivals k) ≡ Some x →
    IsFoundIn (a ∷ arrivals) k x
found_by a arrivals k x None is later e = found_later a arrivals k x (later e)
found_by a arrivals k x (Some y) is later e = record { arrival = a; among = (0, refl); has = is ∙ e }

found : (arrivals : List Arrival) (k x : ℕ) → first_came arrivals k ≡ Some x → IsFoundIn arrivals k x
found [] k x e = absurd (none_some x e)
found (a ∷ arrivals) k x e = found_by a arrivals k x (octet_of a k) refl (found arrivals k x) e

-- what one of those that came has is there
is_there : (arrivals : List Arrival) (a : Arrival) (i k x : ℕ) → slice_get arrivals i ≡ Some a →
    octet_of a k ≡ Some x → (y : ℕ) × (first_came arrivals k ≡ Some y)
is_there [] a i k x at has = absurd (none_some a at)
is_there (b ∷ arrivals) a zero k x at has =
    (x, ap (λ o. first_known o (first_came arrivals k)) (ap (λ l. octet_of l k) (same_some b a at) ∙ has))
is_there (b ∷ arrivals) a (suc i) k x at has =
    by (octet_of b k) refl (is_there arrivals a i k x at has)
  where
    by : (o : Option ℕ) → octet_of b k ≡ o → (y : ℕ) × (first_came arrivals k ≡ Some y) →
        (y : ℕ) × (first_known (octet_of b k) (first_came arrivals k) ≡ Some y)
    by None is later = (later.0, ap (λ o. first_known o (first_came arrivals k)) is ∙ later.1)
    by (Some y) is later = (y, ap (λ o. first_known o (first_came arrivals k)) is)

-- so where the same came, and what came agrees, the first is the same
module _ (arrivals others : List Arrival)
    (there : (a : Arrival) → IsAmongArrivals arrivals a → IsAmongArrivals others a)
    (back : (a : Arrival) → IsAmongArrivals others a → IsAmongArrivals arrivals a)
    (agree : AgreeOnOctets arrivals) where
  same_known : (k : ℕ) (o p : Option ℕ) → first_came arrivals k ≡ o → first_came others k ≡ p → o ≡ p
  same_known k None None e d = refl
  same_known k None (Some y) e d =
      let h = found others k y d in
      let among = back h.arrival h.among in
      let is = is_there arrivals h.arrival among.0 k y among.1 h.has in
      absurd (none_some is.0 (sym e ∙ is.1))
  same_known k (Some x) None e d =
      let h = found arrivals k x e in
      let among = there h.arrival h.among in
      let is = is_there others h.arrival among.0 k x among.1 h.has in
      absurd (none_some is.0 (sym d ∙ is.1))
  same_known k (Some x) (Some y) e d =
      let h = found arrivals k x e in
      let i = found others k y d in
      ap (λ n. Some n) (agree h.arrival i.arrival k x y h.among (back i.arrival i.among) h.has i.has)

  same_first : (k : ℕ) → first_came arrivals k ≡ first_came others k
  same_first k = same_known k (first_came arrivals k) (first_came others k) refl refl

  order_nothing : (base : ℕ) (s t : List ℕ) → IsStreamOf base arrivals s → IsStreamOf base others t → s ≡ t
  order_nothing base s t h i = same_firsts base arrivals others s t same_first h i

pub order_changes_nothing : (base : ℕ) (arrivals others : List Arrival) (s t : List ℕ) →
    ((a : Arrival) → IsAmongArrivals arrivals a → IsAmongArrivals others a) →
    ((a : Arrival) → IsAmongArrivals others a → IsAmongArrivals arrivals a) → AgreeOnOctets arrivals →
    IsStreamOf base arrivals s → IsStreamOf base others t → s ≡ t
order_changes_nothing base arrivals others s t there back agree h i =
    order_nothing arrivals others there back agree base s t h i
