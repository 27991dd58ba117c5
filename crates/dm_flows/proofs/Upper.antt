-- What lies behind extension headers.
use Rattle.std.proofs.Common.{◌≡◌, ◌≤◌, ◌/◌, ℕ, Bool, true, false, inr, if◌then◌else◌, List, length, slice_index, refl, sym, ◌∙◌, ap, subst}
use Rattle.dm_flows.specs.declared.extensions.Astray.TheVariants.{Ends, Fragmented}
use Rattle.dm_flows.specs.declared.passed.Passed.{Passed}
use Rattle.dm_flows.specs.declared.passed.Passed.TheVariants.{Fragment, Cut, Bad}
use Rattle.dm_flows.specs.Ips.{CarriedOctets, LeadsTo, GoesAstray, ipv6_rest, ipv6_whole, ipv6_carried, IsIpv6Header, IsIpv6, HasIpv6Fault}

pub carries_upper : (s : List ℕ) (rest payload : List ℕ) (protocol : ℕ) (carried : CarriedOctets) →
    40 ≤ length s → slice_index s 0 / 16 ≡ 6 → rest ≡ ipv6_rest s →
    (n : ℕ) × LeadsTo n (slice_index s 6) rest protocol payload → carried ≡ ipv6_carried s protocol payload →
    IsIpv6 s carried
carries_upper s rest payload protocol carried least version is (n, leads) says =
    let P : List ℕ → Type 0 = λ l. LeadsTo n (slice_index s 6) l protocol payload in
    let Q : CarriedOctets → Type 0 = λ k. IsIpv6 s k in
    subst Q (sym says) (record {
      front = record { least = least; version = version };
      headers = (n, subst P is leads);
      says = refl;
    })

pub is_fragment : (s : List ℕ) (rest : List ℕ) → 40 ≤ length s → slice_index s 0 / 16 ≡ 6 → rest ≡ ipv6_rest s →
    GoesAstray (slice_index s 6) rest Fragmented → HasIpv6Fault s Fragment
is_fragment s rest least version is astray =
    let P : List ℕ → Type 0 = λ l. GoesAstray (slice_index s 6) l Fragmented in
    let there : P (ipv6_rest s) = subst P is astray in
    (record { least = least; version = version }, there.0, there.1)

-- they end in the middle of one
pub ends_fault : (s : List ℕ) (rest : List ℕ) (why : Passed) → 40 ≤ length s → slice_index s 0 / 16 ≡ 6 →
    rest ≡ ipv6_rest s → GoesAstray (slice_index s 6) rest Ends → why ≡ (if ipv6_whole s then Bad else Cut) →
    HasIpv6Fault s why
ends_fault s rest why least version is astray says = by (ipv6_whole s) refl
  where
    front : IsIpv6Header s
    front = record { least = least; version = version }

    there : GoesAstray (slice_index s 6) (ipv6_rest s) Ends
    there =
        let P : List ℕ → Type 0 = λ l. GoesAstray (slice_index s 6) l Ends in
        subst P is astray

    by : (b : Bool) → ipv6_whole s ≡ b → HasIpv6Fault s why
    by true e =
        let bad : why ≡ Bad = says ∙ ap (λ b. if b then Bad else Cut) e in
        subst (HasIpv6Fault s) (sym bad) (inr (front, e, there.0, there.1))
    by false e =
        let cut : why ≡ Cut = says ∙ ap (λ b. if b then Bad else Cut) e in
        subst (HasIpv6Fault s) (sym cut) (inr (front, e, there.0, there.1))
