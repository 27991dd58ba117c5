-- A packet holds one segment, or there is one reason why it holds none.
use Rattle.std.proofs.Common.{◌≡◌, ◌≢◌, ◌⊎◌, inl, inr, ℕ, Bool, true, false, List, refl, sym, ◌∙◌, ap, subst, arith}
use Rattle.dm_flows.specs.declared.network.Network.{Network}
use Rattle.dm_flows.specs.declared.passed.Passed.{Passed}
use Rattle.dm_flows.specs.declared.passed.Passed.TheVariants.{OtherLink, NotIp, Fragment, OtherProtocol, Cut, Bad}
use Rattle.dm_flows.specs.Links.{link_kind}
use Rattle.dm_flows.specs.Ips.{CarriedOctets, CarriesOctets, HasIpFault}
use Rattle.dm_flows.specs.Tcps.{SeenSegment, tcp_segment, IsTcp, IsNoTcp, CarriesSegment, CarriesNone, IsSegment, IsNoSegment}
use Rattle.dm_flows.proofs.OneLink.{one_ip, ip_or_fault, one_link_fault}
use Rattle.dm_flows.proofs.OneIp.{one_carried, carried_or_fault, one_ip_fault}

-- of one packet, whatever it is said to be
abbrev pub Along : (Network → List ℕ → Type 0) → Type 0
Along P = (n m : Network) (p q : List ℕ) → (n ≡ m) × (p ≡ q) → P m q → P n p

pub along : (P : Network → List ℕ → Type 0) → Along P
along P n m p q same h =
    subst (λ (l : List ℕ). P n l) (sym same.1) (subst (λ (k : Network). P k q) (sym same.0) h)

tcp_or_none : (s : List ℕ) → IsTcp s → IsNoTcp s → ⊥
tcp_or_none s is (inl short) = omega (arith, short, is.least)
tcp_or_none s is (inr (has, inl low)) = omega (arith, low, is.header)
tcp_or_none s is (inr (has, inr less)) = omega (arith, less, is.fits)

pub true_or_false : (b : Bool) → b ≡ true → b ≡ false → ⊥
true_or_false b is not = cc

segment_or_none : (carried : CarriedOctets) (segment : SeenSegment) (why : Passed) → CarriesSegment carried segment →
    CarriesNone carried why → ⊥
segment_or_none carried segment OtherLink is h = h
segment_or_none carried segment NotIp is h = h
segment_or_none carried segment Fragment is h = h
segment_or_none carried segment OtherProtocol is h = h is.protocol
segment_or_none carried segment Cut is h = true_or_false carried.whole is.whole h.1
segment_or_none carried segment Bad is h = tcp_or_none carried.payload is.tcp h.2

-- why an IP packet carries part segment
data NoneIs (carried : CarriedOctets) (why : Passed) : Type 0 where
  other_none : why ≡ OtherProtocol → carried.protocol ≢ 6 → NoneIs carried why
  cut_none : why ≡ Cut → carried.protocol ≡ 6 → carried.whole ≡ false → NoneIs carried why
  bad_none : why ≡ Bad → carried.protocol ≡ 6 → carried.whole ≡ true → NoneIs carried why

none_is : (carried : CarriedOctets) (why : Passed) → CarriesNone carried why → NoneIs carried why
none_is carried OtherLink h = absurd h
none_is carried NotIp h = absurd h
none_is carried Fragment h = absurd h
none_is carried OtherProtocol h = other_none refl h
none_is carried Cut h = cut_none refl h.0 h.1
none_is carried Bad h = bad_none refl h.0 h.1

one_none : (carried : CarriedOctets) (f g : Passed) → NoneIs carried f → NoneIs carried g → f ≡ g
one_none carried f g (other_none e h) (other_none d k) = e ∙ sym d
one_none carried f g (other_none e h) (cut_none d k part) = absurd (h k)
one_none carried f g (other_none e h) (bad_none d k whole) = absurd (h k)
one_none carried f g (cut_none e h part) (other_none d k) = absurd (k h)
one_none carried f g (cut_none e h part) (cut_none d k also) = e ∙ sym d
one_none carried f g (cut_none e h part) (bad_none d k whole) = absurd (true_or_false carried.whole whole part)
one_none carried f g (bad_none e h whole) (other_none d k) = absurd (k h)
one_none carried f g (bad_none e h whole) (cut_none d k part) = absurd (true_or_false carried.whole whole part)
one_none carried f g (bad_none e h whole) (bad_none d k also) = e ∙ sym d

pub one_segment : (link : ℕ) (s : List ℕ) (t u : SeenSegment) → IsSegment link s t → IsSegment link s u → t ≡ u
one_segment link s t u (n, p, c, ip, carries, is) (m, q, d, there, also, same) =
    let at = one_ip (link_kind link) s n m p q ip there in
    let e : c ≡ d = one_carried n p c d carries (along (λ k l. CarriesOctets k l d) n m p q at also) in
    is.says ∙ ap tcp_segment e ∙ sym same.says

abbrev Faulty : Network → List ℕ → Passed → Type 0
Faulty network packet why =
    HasIpFault network packet why ⊎
    ((carried : CarriedOctets) × CarriesOctets network packet carried × CarriesNone carried why)

carried_or_faulty : (n : Network) (p : List ℕ) (c : CarriedOctets) (t : SeenSegment) (why : Passed) →
    CarriesOctets n p c → CarriesSegment c t → Faulty n p why → ⊥
carried_or_faulty n p c t why carries is (inl h) = carried_or_fault n p c why carries h
carried_or_faulty n p c t why carries is (inr (d, also, h)) =
    let e : d ≡ c = one_carried n p d c also carries in
    segment_or_none c t why is (subst (λ (k : CarriedOctets). CarriesNone k why) e h)

one_faulty : (n : Network) (p : List ℕ) (f g : Passed) → Faulty n p f → Faulty n p g → f ≡ g
one_faulty n p f g (inl h) (inl k) = one_ip_fault n p f g h k
one_faulty n p f g (inl h) (inr (c, carries, k)) = absurd (carried_or_fault n p c f carries h)
one_faulty n p f g (inr (c, carries, h)) (inl k) = absurd (carried_or_fault n p c g carries k)
one_faulty n p f g (inr (c, carries, h)) (inr (d, also, k)) =
    let e : d ≡ c = one_carried n p d c also carries in
    one_none c f g (none_is c f h) (none_is c g (subst (λ (l : CarriedOctets). CarriesNone l g) e k))

pub segment_or_reason : (link : ℕ) (s : List ℕ) (t : SeenSegment) (why : Passed) → IsSegment link s t →
    IsNoSegment link s why → ⊥
segment_or_reason link s t why (n, p, c, ip, carries, is) (inl h) = ip_or_fault (link_kind link) s n p why ip h
segment_or_reason link s t why (n, p, c, ip, carries, is) (inr (m, q, there, h)) =
    carried_or_faulty n p c t why carries is
    (along (λ k l. Faulty k l why) n m p q (one_ip (link_kind link) s n m p q ip there) h)

pub one_reason : (link : ℕ) (s : List ℕ) (f g : Passed) → IsNoSegment link s f → IsNoSegment link s g → f ≡ g
one_reason link s f g (inl h) (inl k) = one_link_fault (link_kind link) s f g h k
one_reason link s f g (inl h) (inr (m, q, there, k)) = absurd (ip_or_fault (link_kind link) s m q f there h)
one_reason link s f g (inr (n, p, ip, h)) (inl k) = absurd (ip_or_fault (link_kind link) s n p g ip k)
one_reason link s f g (inr (n, p, ip, h)) (inr (m, q, there, k)) =
    one_faulty n p f g h (along (λ l r. Faulty l r g) n m p q (one_ip (link_kind link) s n m p q ip there) k)
