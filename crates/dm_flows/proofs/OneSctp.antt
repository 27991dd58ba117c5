-- A packet holds one SCTP packet, or there is one reason why it holds none.
use Rattle.std.proofs.Common.{◌≡◌, ◌≢◌, ◌⊎◌, inl, inr, ℕ, true, false, List, refl, sym, ◌∙◌, ap, subst, arith}
use Rattle.dm_flows.specs.declared.network.Network.{Network}
use Rattle.dm_flows.specs.declared.passed.Passed.{Passed}
use Rattle.dm_flows.specs.declared.passed.Passed.TheVariants.{OtherLink, NotIp, Fragment, OtherProtocol, Cut, Bad}
use Rattle.dm_flows.specs.Links.{link_kind}
use Rattle.dm_flows.specs.Ips.{CarriedOctets, CarriesOctets, HasIpFault}
use Rattle.dm_flows.specs.Sctps.{SeenSctp, sctp_packet, CarriesSctp, CarriesNoSctp, IsSctp, IsNoSctp}
use Rattle.dm_flows.proofs.OneLink.{one_ip, ip_or_fault, one_link_fault}
use Rattle.dm_flows.proofs.OneIp.{one_carried, carried_or_fault, one_ip_fault}
use Rattle.dm_flows.proofs.OneSegment.{along, true_or_false}

sctp_or_none : (carried : CarriedOctets) (packet : SeenSctp) (why : Passed) → CarriesSctp carried packet →
    CarriesNoSctp carried why → ⊥
sctp_or_none carried packet OtherLink is h = h
sctp_or_none carried packet NotIp is h = h
sctp_or_none carried packet Fragment is h = h
sctp_or_none carried packet OtherProtocol is h = h is.protocol
sctp_or_none carried packet Cut is h = true_or_false carried.whole is.whole h.1
sctp_or_none carried packet Bad is h = omega (arith, is.least, h.2)

-- why an IP packet carries no SCTP
data NoSctpIs (carried : CarriedOctets) (why : Passed) : Type 0 where
  other_sctp : why ≡ OtherProtocol → carried.protocol ≢ 132 → NoSctpIs carried why
  cut_sctp : why ≡ Cut → carried.protocol ≡ 132 → carried.whole ≡ false → NoSctpIs carried why
  bad_sctp : why ≡ Bad → carried.protocol ≡ 132 → carried.whole ≡ true → NoSctpIs carried why

no_sctp_is : (carried : CarriedOctets) (why : Passed) → CarriesNoSctp carried why → NoSctpIs carried why
no_sctp_is carried OtherLink h = absurd h
no_sctp_is carried NotIp h = absurd h
no_sctp_is carried Fragment h = absurd h
no_sctp_is carried OtherProtocol h = other_sctp refl h
no_sctp_is carried Cut h = cut_sctp refl h.0 h.1
no_sctp_is carried Bad h = bad_sctp refl h.0 h.1

one_no_sctp : (carried : CarriedOctets) (f g : Passed) → NoSctpIs carried f → NoSctpIs carried g → f ≡ g
one_no_sctp carried f g (other_sctp e h) (other_sctp d k) = e ∙ sym d
one_no_sctp carried f g (other_sctp e h) (cut_sctp d k part) = absurd (h k)
one_no_sctp carried f g (other_sctp e h) (bad_sctp d k whole) = absurd (h k)
one_no_sctp carried f g (cut_sctp e h part) (other_sctp d k) = absurd (k h)
one_no_sctp carried f g (cut_sctp e h part) (cut_sctp d k also) = e ∙ sym d
one_no_sctp carried f g (cut_sctp e h part) (bad_sctp d k whole) =
    absurd (true_or_false carried.whole whole part)
one_no_sctp carried f g (bad_sctp e h whole) (other_sctp d k) = absurd (k h)
one_no_sctp carried f g (bad_sctp e h whole) (cut_sctp d k part) =
    absurd (true_or_false carried.whole whole part)
one_no_sctp carried f g (bad_sctp e h whole) (bad_sctp d k also) = e ∙ sym d

pub one_sctp : (link : ℕ) (s : List ℕ) (t u : SeenSctp) → IsSctp link s t → IsSctp link s u → t ≡ u
one_sctp link s t u (n, p, c, ip, carries, is) (m, q, d, there, also, same) =
    let at = one_ip (link_kind link) s n m p q ip there in
    let e : c ≡ d = one_carried n p c d carries (along (λ k l. CarriesOctets k l d) n m p q at also) in
    is.says ∙ ap sctp_packet e ∙ sym same.says

-- why an IP packet holds none
abbrev HasNone : Network → List ℕ → Passed → Type 0
HasNone network packet why =
    HasIpFault network packet why ⊎
    ((carried : CarriedOctets) × CarriesOctets network packet carried × CarriesNoSctp carried why)

sctp_or_fault : (n : Network) (p : List ℕ) (c : CarriedOctets) (t : SeenSctp) (why : Passed) →
    CarriesOctets n p c → CarriesSctp c t → HasNone n p why → ⊥
sctp_or_fault n p c t why carries is (inl h) = carried_or_fault n p c why carries h
sctp_or_fault n p c t why carries is (inr (d, also, h)) =
    let e : d ≡ c = one_carried n p d c also carries in
    sctp_or_none c t why is (subst (λ (k : CarriedOctets). CarriesNoSctp k why) e h)

one_fault : (n : Network) (p : List ℕ) (f g : Passed) → HasNone n p f → HasNone n p g → f ≡ g
one_fault n p f g (inl h) (inl k) = one_ip_fault n p f g h k
one_fault n p f g (inl h) (inr (c, carries, k)) = absurd (carried_or_fault n p c f carries h)
one_fault n p f g (inr (c, carries, h)) (inl k) = absurd (carried_or_fault n p c g carries k)
one_fault n p f g (inr (c, carries, h)) (inr (d, also, k)) =
    let e : d ≡ c = one_carried n p d c also carries in
    one_no_sctp c f g (no_sctp_is c f h)
    (no_sctp_is c g (subst (λ (l : CarriedOctets). CarriesNoSctp l g) e k))

pub sctp_or_reason : (link : ℕ) (s : List ℕ) (t : SeenSctp) (why : Passed) → IsSctp link s t →
    IsNoSctp link s why → ⊥
sctp_or_reason link s t why (n, p, c, ip, carries, is) (inl h) = ip_or_fault (link_kind link) s n p why ip h
sctp_or_reason link s t why (n, p, c, ip, carries, is) (inr (m, q, there, h)) =
    sctp_or_fault n p c t why carries is
    (along (λ k l. HasNone k l why) n m p q (one_ip (link_kind link) s n m p q ip there) h)

pub one_sctp_reason : (link : ℕ) (s : List ℕ) (f g : Passed) → IsNoSctp link s f → IsNoSctp link s g → f ≡ g
one_sctp_reason link s f g (inl h) (inl k) = one_link_fault (link_kind link) s f g h k
one_sctp_reason link s f g (inl h) (inr (m, q, there, k)) = absurd (ip_or_fault (link_kind link) s m q f there h)
one_sctp_reason link s f g (inr (n, p, ip, h)) (inl k) = absurd (ip_or_fault (link_kind link) s n p g ip k)
one_sctp_reason link s f g (inr (n, p, ip, h)) (inr (m, q, there, k)) =
    one_fault n p f g h (along (λ l r. HasNone l r g) n m p q (one_ip (link_kind link) s n m p q ip there) k)
