-- An IP packet carries one thing, or there is one reason why it carries none.
use Rattle.std.proofs.Common.{◌≡◌, ◌≢◌, ◌⊎◌, inl, inr, ℕ, zero, suc, ◌/◌, ◌≤◌, ◌<◌, true, false, List, length, drop, slice_index, refl, sym, ◌∙◌, ap, arith}
use Rattle.dm_flows.specs.declared.network.Network.{Network}
use Rattle.dm_flows.specs.declared.network.Network.TheVariants.{Ipv4, Ipv6}
use Rattle.dm_flows.specs.declared.passed.Passed.{Passed}
use Rattle.dm_flows.specs.declared.passed.Passed.TheVariants.{OtherLink, NotIp, Fragment, OtherProtocol, Cut, Bad}
use Rattle.dm_flows.specs.Ips.{CarriedOctets, ipv4_header, ipv4_total, ipv4_fragment, IsIpv4Header, IsIpv4, HasIpv4Fault}
use Rattle.dm_flows.specs.Ips.{IsWholeExtension, extension_size, LeadsTo, EndsInExtensions, LeadsToFragment}
use Rattle.dm_flows.specs.Ips.{ipv6_rest, ipv6_whole, ipv6_carried, IsIpv6Header, IsIpv6, EndsInIpv6, HasIpv6Fault, CarriesOctets, HasIpFault}

-- why a packet of version 4 carries nothing
data Ipv4FaultIs (s : List ℕ) (why : Passed) : Type 0 where
  short_ipv4 : why ≡ Cut → length s < 20 → Ipv4FaultIs s why
  cut_ipv4 : why ≡ Cut → IsIpv4Header s → length s < ipv4_header s → Ipv4FaultIs s why
  other_ipv4 : why ≡ Bad → 20 ≤ length s → (IsIpv4Header s → ⊥) → Ipv4FaultIs s why
  part_ipv4 : why ≡ Fragment → IsIpv4Header s → ipv4_header s ≤ length s → ipv4_fragment s ≢ 0 → Ipv4FaultIs s why

no_header : (s : List ℕ) → (slice_index s 0 / 16 ≢ 4) ⊎ (ipv4_header s < 20) ⊎ (ipv4_total s < ipv4_header s) →
    IsIpv4Header s → ⊥
no_header s (inl other) is = other is.version
no_header s (inr (inl low)) is = omega (arith, low, is.header)
no_header s (inr (inr less)) is = omega (arith, less, is.total)

ipv4_fault_is : (s : List ℕ) (why : Passed) → HasIpv4Fault s why → Ipv4FaultIs s why
ipv4_fault_is s OtherLink h = absurd h
ipv4_fault_is s NotIp h = absurd h
ipv4_fault_is s Fragment (is, has, some) = part_ipv4 refl is has some
ipv4_fault_is s OtherProtocol h = absurd h
ipv4_fault_is s Cut (inl short) = short_ipv4 refl short
ipv4_fault_is s Cut (inr (is, less)) = cut_ipv4 refl is less
ipv4_fault_is s Bad (has, other) = other_ipv4 refl has (no_header s other)

one_ipv4_fault : (s : List ℕ) (f g : Passed) → Ipv4FaultIs s f → Ipv4FaultIs s g → f ≡ g
one_ipv4_fault s f g (short_ipv4 e h) (short_ipv4 d k) = e ∙ sym d
one_ipv4_fault s f g (short_ipv4 e h) (cut_ipv4 d is k) = e ∙ sym d
one_ipv4_fault s f g (short_ipv4 e h) (other_ipv4 d has k) = absurd (omega arith)
one_ipv4_fault s f g (short_ipv4 e h) (part_ipv4 d is has k) = absurd (omega (arith, is.least))
one_ipv4_fault s f g (cut_ipv4 e is h) (short_ipv4 d k) = e ∙ sym d
one_ipv4_fault s f g (cut_ipv4 e is h) (cut_ipv4 d also k) = e ∙ sym d
one_ipv4_fault s f g (cut_ipv4 e is h) (other_ipv4 d has k) = absurd (k is)
one_ipv4_fault s f g (cut_ipv4 e is h) (part_ipv4 d also has k) = absurd (omega arith)
one_ipv4_fault s f g (other_ipv4 e has h) (short_ipv4 d k) = absurd (omega arith)
one_ipv4_fault s f g (other_ipv4 e has h) (cut_ipv4 d is k) = absurd (h is)
one_ipv4_fault s f g (other_ipv4 e has h) (other_ipv4 d also k) = e ∙ sym d
one_ipv4_fault s f g (other_ipv4 e has h) (part_ipv4 d is also k) = absurd (h is)
one_ipv4_fault s f g (part_ipv4 e is has h) (short_ipv4 d k) = absurd (omega (arith, is.least))
one_ipv4_fault s f g (part_ipv4 e is has h) (cut_ipv4 d also k) = absurd (omega arith)
one_ipv4_fault s f g (part_ipv4 e is has h) (other_ipv4 d also k) = absurd (k is)
one_ipv4_fault s f g (part_ipv4 e is has h) (part_ipv4 d also there k) = e ∙ sym d

ipv4_or_fault : (s : List ℕ) (carried : CarriedOctets) (why : Passed) → IsIpv4 s carried → Ipv4FaultIs s why → ⊥
ipv4_or_fault s carried why is (short_ipv4 e h) = omega (arith, h, is.front.least)
ipv4_or_fault s carried why is (cut_ipv4 e also h) = omega (arith, h, is.header)
ipv4_or_fault s carried why is (other_ipv4 e has h) = h is.front
ipv4_or_fault s carried why is (part_ipv4 e also has h) = h is.unfragmented

-- extension headers lead to one end
one_lead : (n m next : ℕ) (s : List ℕ) (p q : ℕ) (x y : List ℕ) → LeadsTo n next s p x → LeadsTo m next s q y →
    (p ≡ q) × (x ≡ y)
one_lead zero zero next s p q x y h k = (h.1 ∙ sym k.1, h.2 ∙ sym k.2)
one_lead zero (suc m) next s p q x y h k = absurd (h.0 k.0.kind)
one_lead (suc n) zero next s p q x y h k = absurd (k.0 h.0.kind)
one_lead (suc n) (suc m) next s p q x y h k =
    one_lead n m (slice_index s 0) (drop (extension_size next s) s) p q x y h.2 k.2

not_whole : (next : ℕ) (s : List ℕ) → IsWholeExtension next s →
    (length s < 2) ⊎ ((2 ≤ length s) × (length s < extension_size next s)) → ⊥
not_whole next s is (inl short) = omega (arith, short, is.least)
not_whole next s is (inr (has, less)) = omega (arith, less, is.fits)

lead_or_end : (n m next : ℕ) (s : List ℕ) (p : ℕ) (x : List ℕ) → LeadsTo n next s p x → EndsInExtensions m next s → ⊥
lead_or_end zero zero next s p x h e = h.0 e.0
lead_or_end zero (suc m) next s p x h e = h.0 e.0.kind
lead_or_end (suc n) zero next s p x h e = not_whole next s h.0 e.1
lead_or_end (suc n) (suc m) next s p x h e =
    lead_or_end n m (slice_index s 0) (drop (extension_size next s) s) p x h.2 e.2

lead_or_fragment : (n m next : ℕ) (s : List ℕ) (p : ℕ) (x : List ℕ) → LeadsTo n next s p x →
    LeadsToFragment m next s → ⊥
lead_or_fragment zero zero next s p x h f = h.0 f.0.kind
lead_or_fragment zero (suc m) next s p x h f = h.0 f.0.kind
lead_or_fragment (suc n) zero next s p x h f = h.1 f.1
lead_or_fragment (suc n) (suc m) next s p x h f =
    lead_or_fragment n m (slice_index s 0) (drop (extension_size next s) s) p x h.2 f.2

end_or_fragment : (n m next : ℕ) (s : List ℕ) → EndsInExtensions n next s → LeadsToFragment m next s → ⊥
end_or_fragment zero zero next s e f = not_whole next s f.0 e.1
end_or_fragment zero (suc m) next s e f = not_whole next s f.0 e.1
end_or_fragment (suc n) zero next s e f = e.1 f.1
end_or_fragment (suc n) (suc m) next s e f =
    end_or_fragment n m (slice_index s 0) (drop (extension_size next s) s) e.2 f.2

-- why a packet of version 6 carries nothing
data Ipv6FaultIs (s : List ℕ) (why : Passed) : Type 0 where
  short_ipv6 : why ≡ Cut → length s < 40 → Ipv6FaultIs s why
  other_ipv6 : why ≡ Bad → 40 ≤ length s → slice_index s 0 / 16 ≢ 6 → Ipv6FaultIs s why
  cut_ipv6 : why ≡ Cut → EndsInIpv6 s false → Ipv6FaultIs s why
  bad_ipv6 : why ≡ Bad → EndsInIpv6 s true → Ipv6FaultIs s why
  part_ipv6 : why ≡ Fragment → IsIpv6Header s → (n : ℕ) → LeadsToFragment n (slice_index s 6) (ipv6_rest s) →
      Ipv6FaultIs s why

ipv6_fault_is : (s : List ℕ) (why : Passed) → HasIpv6Fault s why → Ipv6FaultIs s why
ipv6_fault_is s OtherLink h = absurd h
ipv6_fault_is s NotIp h = absurd h
ipv6_fault_is s Fragment (is, n, leads) = part_ipv6 refl is n leads
ipv6_fault_is s OtherProtocol h = absurd h
ipv6_fault_is s Cut (inl short) = short_ipv6 refl short
ipv6_fault_is s Cut (inr ends) = cut_ipv6 refl ends
ipv6_fault_is s Bad (inl (has, other)) = other_ipv6 refl has other
ipv6_fault_is s Bad (inr ends) = bad_ipv6 refl ends

whole_or_not : (s : List ℕ) → ipv6_whole s ≡ true → ipv6_whole s ≡ false → ⊥
whole_or_not s is not = cc

one_ipv6_fault : (s : List ℕ) (f g : Passed) → Ipv6FaultIs s f → Ipv6FaultIs s g → f ≡ g
one_ipv6_fault s f g (short_ipv6 e h) (short_ipv6 d k) = e ∙ sym d
one_ipv6_fault s f g (short_ipv6 e h) (other_ipv6 d has k) = absurd (omega arith)
one_ipv6_fault s f g (short_ipv6 e h) (cut_ipv6 d k) = e ∙ sym d
one_ipv6_fault s f g (short_ipv6 e h) (bad_ipv6 d k) = absurd (omega (arith, k.0.least))
one_ipv6_fault s f g (short_ipv6 e h) (part_ipv6 d is m k) = absurd (omega (arith, is.least))
one_ipv6_fault s f g (other_ipv6 e has h) (short_ipv6 d k) = absurd (omega arith)
one_ipv6_fault s f g (other_ipv6 e has h) (other_ipv6 d also k) = e ∙ sym d
one_ipv6_fault s f g (other_ipv6 e has h) (cut_ipv6 d k) = absurd (h k.0.version)
one_ipv6_fault s f g (other_ipv6 e has h) (bad_ipv6 d k) = e ∙ sym d
one_ipv6_fault s f g (other_ipv6 e has h) (part_ipv6 d is m k) = absurd (h is.version)
one_ipv6_fault s f g (cut_ipv6 e h) (short_ipv6 d k) = e ∙ sym d
one_ipv6_fault s f g (cut_ipv6 e h) (other_ipv6 d has k) = absurd (k h.0.version)
one_ipv6_fault s f g (cut_ipv6 e h) (cut_ipv6 d k) = e ∙ sym d
one_ipv6_fault s f g (cut_ipv6 e h) (bad_ipv6 d k) = absurd (whole_or_not s k.1 h.1)
one_ipv6_fault s f g (cut_ipv6 e h) (part_ipv6 d is m k) =
    absurd (end_or_fragment h.2 m (slice_index s 6) (ipv6_rest s) h.3 k)
one_ipv6_fault s f g (bad_ipv6 e h) (short_ipv6 d k) = absurd (omega (arith, h.0.least))
one_ipv6_fault s f g (bad_ipv6 e h) (other_ipv6 d has k) = e ∙ sym d
one_ipv6_fault s f g (bad_ipv6 e h) (cut_ipv6 d k) = absurd (whole_or_not s h.1 k.1)
one_ipv6_fault s f g (bad_ipv6 e h) (bad_ipv6 d k) = e ∙ sym d
one_ipv6_fault s f g (bad_ipv6 e h) (part_ipv6 d is m k) =
    absurd (end_or_fragment h.2 m (slice_index s 6) (ipv6_rest s) h.3 k)
one_ipv6_fault s f g (part_ipv6 e is n h) (short_ipv6 d k) = absurd (omega (arith, is.least))
one_ipv6_fault s f g (part_ipv6 e is n h) (other_ipv6 d has k) = absurd (k is.version)
one_ipv6_fault s f g (part_ipv6 e is n h) (cut_ipv6 d k) =
    absurd (end_or_fragment k.2 n (slice_index s 6) (ipv6_rest s) k.3 h)
one_ipv6_fault s f g (part_ipv6 e is n h) (bad_ipv6 d k) =
    absurd (end_or_fragment k.2 n (slice_index s 6) (ipv6_rest s) k.3 h)
one_ipv6_fault s f g (part_ipv6 e is n h) (part_ipv6 d also m k) = e ∙ sym d

ipv6_or_fault : (s : List ℕ) (carried : CarriedOctets) (why : Passed) → IsIpv6 s carried → Ipv6FaultIs s why → ⊥
ipv6_or_fault s carried why is (short_ipv6 e h) = omega (arith, h, is.front.least)
ipv6_or_fault s carried why is (other_ipv6 e has h) = h is.front.version
ipv6_or_fault s carried why is (cut_ipv6 e h) =
    lead_or_end is.headers.0 h.2 (slice_index s 6) (ipv6_rest s) carried.protocol carried.payload is.headers.1 h.3
ipv6_or_fault s carried why is (bad_ipv6 e h) =
    lead_or_end is.headers.0 h.2 (slice_index s 6) (ipv6_rest s) carried.protocol carried.payload is.headers.1 h.3
ipv6_or_fault s carried why is (part_ipv6 e also m h) =
    lead_or_fragment is.headers.0 m (slice_index s 6) (ipv6_rest s) carried.protocol carried.payload is.headers.1 h

one_ipv6 : (s : List ℕ) (a b : CarriedOctets) → IsIpv6 s a → IsIpv6 s b → a ≡ b
one_ipv6 s a b is also =
    let same = one_lead is.headers.0 also.headers.0 (slice_index s 6) (ipv6_rest s) a.protocol b.protocol a.payload
    b.payload is.headers.1 also.headers.1 in
    is.says ∙ ap (λ p. ipv6_carried s p a.payload) same.0 ∙ ap (λ l. ipv6_carried s b.protocol l) same.1 ∙ sym also.says

pub one_carried : (network : Network) (s : List ℕ) (a b : CarriedOctets) → CarriesOctets network s a →
    CarriesOctets network s b → a ≡ b
one_carried Ipv4 s a b is also = is.says ∙ sym also.says
one_carried Ipv6 s a b is also = one_ipv6 s a b is also

pub carried_or_fault : (network : Network) (s : List ℕ) (carried : CarriedOctets) (why : Passed) →
    CarriesOctets network s carried → HasIpFault network s why → ⊥
carried_or_fault Ipv4 s carried why is h = ipv4_or_fault s carried why is (ipv4_fault_is s why h)
carried_or_fault Ipv6 s carried why is h = ipv6_or_fault s carried why is (ipv6_fault_is s why h)

pub one_ip_fault : (network : Network) (s : List ℕ) (f g : Passed) → HasIpFault network s f →
    HasIpFault network s g → f ≡ g
one_ip_fault Ipv4 s f g h k = one_ipv4_fault s f g (ipv4_fault_is s f h) (ipv4_fault_is s g k)
one_ip_fault Ipv6 s f g h k = one_ipv6_fault s f g (ipv6_fault_is s f h) (ipv6_fault_is s g k)
