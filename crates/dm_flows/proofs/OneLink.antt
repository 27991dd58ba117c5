-- A link's packet holds one IP packet at most, or there is one reason why it holds none.
use Rattle.std.proofs.Common.{◌≡◌, inl, inr, ℕ, zero, suc, ◌≤◌, Option, None, Some, List, length, drop, sym, ◌∙◌, ap, arith}
use Rattle.dm_flows.specs.declared.network.Network.{Network}
use Rattle.dm_flows.specs.declared.link.LinkKind.{LinkKind}
use Rattle.dm_flows.specs.declared.link.LinkKind.TheVariants.{Ethernet, Cooked, CookedSecond, HostLoopback, Loopback, RawIp, RawIpv4, RawIpv6, Unknown}
use Rattle.dm_flows.specs.declared.passed.Passed.{Passed}
use Rattle.dm_flows.specs.Links.{HasTags, EndsInTags, HasType, EndsInType, network_of, IsBehind, IsNoneBehind, IsTyped, IsNoneTyped, HoldsIp, HasLinkFault}

pub same_some : {X : Type 0} (x y : X) → Some x ≡ Some y → x ≡ y
same_some x y e = cc

pub none_some : {X : Type 0} (x : X) → None ≡ Some x → ⊥
none_some x e = cc

one_tags : (n m : ℕ) (s : List ℕ) (k j : ℕ) (r q : List ℕ) → HasTags n s k r → HasTags m s j q → (k ≡ j) × (r ≡ q)
one_tags zero zero s k j r q h i = (h.2 ∙ sym i.2, h.3 ∙ sym i.3)
one_tags zero (suc m) s k j r q h i = absurd (h.1 i.1)
one_tags (suc n) zero s k j r q h i = absurd (i.1 h.1)
one_tags (suc n) (suc m) s k j r q h i = one_tags n m (drop 4 s) k j r q h.2 i.2

tags_or_end : (n m : ℕ) (s : List ℕ) (k : ℕ) (r : List ℕ) → HasTags n s k r → EndsInTags m s → ⊥
tags_or_end zero zero s k r h (inl short) = omega (arith, h.0)
tags_or_end zero zero s k r h (inr (has, less, tag)) = h.1 tag
tags_or_end zero (suc m) s k r h e = h.1 e.1
tags_or_end (suc n) zero s k r h (inl short) = omega (arith, h.0)
tags_or_end (suc n) zero s k r h (inr (has, less, tag)) = omega (arith, h.0)
tags_or_end (suc n) (suc m) s k r h e = tags_or_end n m (drop 4 s) k r h.2 e.2

type_or_end : (front : ℕ) (s : List ℕ) (k : ℕ) (r : List ℕ) → HasType front s k r → EndsInType front s → ⊥
type_or_end front s k r h (inl short) = omega (arith, h.1)
type_or_end front s k r h (inr (has, m, e)) = tags_or_end h.0 m (drop front s) k r h.2 e

one_type : (front : ℕ) (s : List ℕ) (k j : ℕ) (r q : List ℕ) → HasType front s k r → HasType front s j q →
    (k ≡ j) × (r ≡ q)
one_type front s k j r q h i = one_tags h.0 i.0 (drop front s) k j r q h.2 i.2

one_typed : (front : ℕ) (s : List ℕ) (n m : Network) (p q : List ℕ) → IsTyped front s n p → IsTyped front s m q →
    (n ≡ m) × (p ≡ q)
one_typed front s n m p q (k, h, at) (j, i, there) =
    let same = one_type front s k j p q h i in
    (same_some n m (sym at ∙ ap network_of same.0 ∙ there), same.1)

typed_or_none : (front : ℕ) (s : List ℕ) (n : Network) (p : List ℕ) (why : Passed) → IsTyped front s n p →
    IsNoneTyped front s why → ⊥
typed_or_none front s n p why (k, h, at) (inl (e, ends)) = type_or_end front s k p h ends
typed_or_none front s n p why (k, h, at) (inr (e, j, r, i, none)) =
    none_some n (sym none ∙ ap network_of (one_type front s j k r p i h).0 ∙ at)

one_none_typed : (front : ℕ) (s : List ℕ) (f g : Passed) → IsNoneTyped front s f → IsNoneTyped front s g → f ≡ g
one_none_typed front s f g (inl (e, h)) (inl (d, i)) = e ∙ sym d
one_none_typed front s f g (inl (e, h)) (inr (d, j, r, i, none)) = absurd (type_or_end front s j r i h)
one_none_typed front s f g (inr (e, j, r, i, none)) (inl (d, h)) = absurd (type_or_end front s j r i h)
one_none_typed front s f g (inr h) (inr i) = h.0 ∙ sym i.0

behind_or_none : (size : ℕ) (found : Option Network) (s : List ℕ) (n : Network) (why : Passed) → size ≤ length s →
    found ≡ Some n → IsNoneBehind size found s why → ⊥
behind_or_none size found s n why has at (inl (e, short)) = omega arith
behind_or_none size found s n why has at (inr (e, also, none)) = none_some n (sym none ∙ at)

one_none_behind : (size : ℕ) (found : Option Network) (s : List ℕ) (f g : Passed) → IsNoneBehind size found s f →
    IsNoneBehind size found s g → f ≡ g
one_none_behind size found s f g (inl (e, h)) (inl (d, i)) = e ∙ sym d
one_none_behind size found s f g (inl (e, h)) (inr (d, i, none)) = absurd (omega arith)
one_none_behind size found s f g (inr (e, i, none)) (inl (d, h)) = absurd (omega arith)
one_none_behind size found s f g (inr h) (inr i) = h.0 ∙ sym i.0

one_behind : (size : ℕ) (found : Option Network) (s : List ℕ) (n m : Network) (p q : List ℕ) →
    IsBehind size found s n p → IsBehind size found s m q → (n ≡ m) × (p ≡ q)
one_behind size found s n m p q (has, at, is) (also, there, same) = (same_some n m (sym at ∙ there), is ∙ sym same)

pub one_ip : (kind : LinkKind) (s : List ℕ) (n m : Network) (p q : List ℕ) → HoldsIp kind s n p →
    HoldsIp kind s m q → (n ≡ m) × (p ≡ q)
one_ip Ethernet s n m p q h i = one_typed 12 s n m p q h i
one_ip Cooked s n m p q h i = one_typed 14 s n m p q h i
one_ip CookedSecond s n m p q h i = one_behind _ _ s n m p q h i
one_ip HostLoopback s n m p q h i = one_behind _ _ s n m p q h i
one_ip Loopback s n m p q h i = one_behind _ _ s n m p q h i
one_ip RawIp s n m p q h i = (same_some n m (sym h.1 ∙ i.1), h.2 ∙ sym i.2)
one_ip RawIpv4 s n m p q h i = (h.0 ∙ sym i.0, h.1 ∙ sym i.1)
one_ip RawIpv6 s n m p q h i = (h.0 ∙ sym i.0, h.1 ∙ sym i.1)
one_ip Unknown s n m p q h i = absurd h

pub ip_or_fault : (kind : LinkKind) (s : List ℕ) (n : Network) (p : List ℕ) (why : Passed) → HoldsIp kind s n p →
    HasLinkFault kind s why → ⊥
ip_or_fault Ethernet s n p why h f = typed_or_none 12 s n p why h f
ip_or_fault Cooked s n p why h f = typed_or_none 14 s n p why h f
ip_or_fault CookedSecond s n p why h f = behind_or_none _ _ s n why h.0 h.1 f
ip_or_fault HostLoopback s n p why h f = behind_or_none _ _ s n why h.0 h.1 f
ip_or_fault Loopback s n p why h f = behind_or_none _ _ s n why h.0 h.1 f
ip_or_fault RawIp s n p why h f = behind_or_none _ _ s n why h.0 h.1 f
ip_or_fault RawIpv4 s n p why h f = f
ip_or_fault RawIpv6 s n p why h f = f
ip_or_fault Unknown s n p why h f = h

pub one_link_fault : (kind : LinkKind) (s : List ℕ) (f g : Passed) → HasLinkFault kind s f → HasLinkFault kind s g →
    f ≡ g
one_link_fault Ethernet s f g h i = one_none_typed 12 s f g h i
one_link_fault Cooked s f g h i = one_none_typed 14 s f g h i
one_link_fault CookedSecond s f g h i = one_none_behind _ _ s f g h i
one_link_fault HostLoopback s f g h i = one_none_behind _ _ s f g h i
one_link_fault Loopback s f g h i = one_none_behind _ _ s f g h i
one_link_fault RawIp s f g h i = one_none_behind _ _ s f g h i
one_link_fault RawIpv4 s f g h i = absurd h
one_link_fault RawIpv6 s f g h i = absurd h
one_link_fault Unknown s f g h i = h ∙ sym i
