-- Octets without a flaw have a value.
use Rattle.std.proofs.Common.{◌≡◌, ◌≢◌, ◌<◌, ◌≤◌, ◌⊎◌, inl, inr, ℕ, ◌+◌, ◌*◌, Bool, true, false, nat_eq, nat_lt, if◌then◌else◌, Option, None, Some, is_some, List, [], ◌∷◌, length, drop, refl, sym, subst, ap, arith, eqb-true}
use Rattle.std.specs.Prelude.{MatchOption}
use Rattle.std.specs.Int.{cast_signed, w32, w64}
use Rattle.std.specs.Str.{is_utf8}
use Rattle.std.specs.List.{list_all}
use Rattle.std.proofs.lemmas.Bool.{eqb-false}
use Rattle.byteorder.specs.Endian.{big_number}
use Rattle.dm_wire.specs.declared.avp.Avp.{Avp}
use Rattle.dm_wire.specs.Members.{members, MembersSpell}
use Rattle.dm_value.specs.declared.avp_type.AvpType.{AvpType}
use Rattle.dm_value.specs.declared.avp_type.AvpType.TheVariants.{OctetString, Integer32, Integer64, Unsigned32, Unsigned64, Address, Time, UTF8String, DiameterIdentity, DiameterURI, Enumerated, Grouped}
use Rattle.dm_value.specs.declared.fault.ValueFault.{ValueFault}
use Rattle.dm_value.specs.declared.fault.ValueFault.TheVariants.{WrongLength, WrongValue}
use Rattle.dm_value.specs.declared.value.Value.{Value}
use Rattle.dm_value.specs.declared.value.Value.TheVariants as value
use Rattle.dm_value.specs.declared.address.Address.TheVariants as address
use Rattle.dm_value.specs.declared.address.Ip.TheVariants.{V4, V6}
use Rattle.dm_value.specs.Columns.{family, HasWrongLength, HasWrongValue, RefusesData}
use Rattle.dm_value.specs.Decided.{FlawDecides, ValueOrFault}
use Rattle.dm_wire.specs.Octets.{AreOctets}
use Rattle.dm_value.specs.Flaws.{flaw, sized, tested, has_its_size, is_visible, is_uri}
use Rattle.dm_value.specs.Meaning.{Means}
use Rattle.dm_value.proofs.Decided.{Decides-utf8, Decides-all_visible, Decides-uri}
use Rattle.dm_value.proofs.Flawed.{fault_by_flaw, any_tells, told_fault, Tells}

sized_good : (n : ℕ) (s : List ℕ) → sized n s ≡ None → length s ≡ n
sized_good n s h = by (nat_eq (length s) n) refl h where
  by : (b : Bool) → nat_eq (length s) n ≡ b → (if b then None else Some WrongLength) ≡ None → length s ≡ n
  by true e g = eqb-true (length s) n e
  by false e g = absurd (cc)

tested_good : (n : ℕ) (r : Bool) (s : List ℕ) → tested n r s ≡ None → (n ≤ length s) × (r ≡ true)
tested_good n r s h = by (nat_lt (length s) n) refl r refl h where
  by : (b : Bool) → nat_lt (length s) n ≡ b → (c : Bool) → r ≡ c →
      (if b then Some WrongLength else (if c then None else Some WrongValue)) ≡ None → (n ≤ length s) × (r ≡ true)
  by true e c f g = absurd (cc)
  by false e true f g = (grind arith, f)
  by false e false f g = absurd (cc)

-- the two octets of a family below 256
two_octets : (f : ℕ) (s : List ℕ) → f < 256 → 2 ≤ length s → family s ≡ f → s ≡ 0 ∷ f ∷ drop 2 s
two_octets f [] b h e = absurd (omega arith)
two_octets f (x ∷ []) b h e = absurd (omega arith)
two_octets f (x ∷ y ∷ s) b h e =
    let number : x * 256 + (y * 1 + 0) ≡ f = e in
    let high : x ≡ 0 = omega arith in
    let low : y ≡ f = omega arith in
    rw (high, low) refl

address_value : (s : List ℕ) → 2 ≤ length s → has_its_size s ≡ true → (v : Value) × Means Address s v
address_value s h r = by (nat_eq (family s) 1) refl (nat_eq (family s) 2) refl r where
  by : (b : Bool) → nat_eq (family s) 1 ≡ b → (c : Bool) → nat_eq (family s) 2 ≡ c →
      (if b then nat_eq (length s) 6 else (if c then nat_eq (length s) 18 else true)) ≡ true →
      (v : Value) × Means Address s v
  by true e c f t =
      let six = eqb-true (length s) 6 t in
      let cut = two_octets 1 s (omega arith) h (eqb-true (family s) 1 e) in
      (value.Addr (address.Ip (V4 (drop 2 s))), (cut, (let n = ap length cut in omega arith)))
  by false e true f t =
      let all = eqb-true (length s) 18 t in
      let cut = two_octets 2 s (omega arith) h (eqb-true (family s) 2 f) in
      (value.Addr (address.Ip (V6 (drop 2 s))), (cut, (let n = ap length cut in omega arith)))
  by false e false f t = (
    value.Addr (address.Other (family s) (drop 2 s)),
    (h, refl, refl, eqb-false (family s) 1 e, eqb-false (family s) 2 f),
  )

not_empty : (s : List ℕ) → 1 ≤ length s → s ≢ []
not_empty s h e = let n = ap length e in omega arith

group_value : MembersSpell → (s : List ℕ) → AreOctets s → flaw Grouped s ≡ None → (v : Value) × Means Grouped s v
group_value law s o h = by (members s) refl h where
  by : (m : Option (List Avp)) → members s ≡ m → (if is_some m then None else Some WrongLength) ≡ None →
      (v : Value) × Means Grouped s v
  by None e g = absurd (cc)
  by (Some l) e g = (value.Group l, (law s l o).0 e)

-- octets without a flaw have a value
pub valued : MembersSpell → (kind : AvpType) (s : List ℕ) → (kind ≡ Grouped → AreOctets s) → flaw kind s ≡ None →
    (v : Value) × Means kind s v
valued law Grouped s o h = group_value law s (o refl) h
valued law OctetString s o h = (value.Bytes s, refl)
valued law Integer32 s o h = (value.Int32 (cast_signed w32 (big_number 4 s)), (sized_good 4 s h, refl))
valued law Integer64 s o h = (value.Int64 (cast_signed w64 (big_number 8 s)), (sized_good 8 s h, refl))
valued law Unsigned32 s o h = (value.Uint32 (big_number 4 s), (sized_good 4 s h, refl))
valued law Unsigned64 s o h = (value.Uint64 (big_number 8 s), (sized_good 8 s h, refl))
valued law Address s o h = let (size, right) = tested_good 2 (has_its_size s) s h in address_value s size right
valued law Time s o h = (value.Time (big_number 4 s), (sized_good 4 s h, refl))
valued law UTF8String s o h = let (size, right) = tested_good 0 (is_utf8 s) s h in
    (value.Text s, (refl, (Decides-utf8 s).0 right))
valued law DiameterIdentity s o h =
    let (size, right) = tested_good 1 (list_all is_visible s) s h in
    (value.Identity s, (refl, not_empty s size, (Decides-all_visible s).0 right))
valued law DiameterURI s o h = let (size, right) = tested_good 7 (is_uri s) s h in
    (value.Uri s, (refl, (Decides-uri s).0 right))
valued law Enumerated s o h = (value.Enumerated (cast_signed w32 (big_number 4 s)), (sized_good 4 s h, refl))

-- a flaw is a fault
flawed : MembersSpell → (kind : AvpType) (s : List ℕ) (f : ValueFault) → (kind ≡ Grouped → AreOctets s) →
    Some f ≡ flaw kind s → RefusesData kind s f
flawed law Grouped s f o e =
    told_fault (Some f) Grouped s
    (subst (λ (x : Option ValueFault). Tells x (HasWrongLength Grouped s) (HasWrongValue Grouped s)) (sym e)
    (any_tells law Grouped s (o refl)))
flawed law kind s f o e = fault_by_flaw (Some f) kind s (λ g. (cc)) e

pub decides : MembersSpell → FlawDecides
decides law kind s o = by (flaw kind s) refl where
  by : (r : Option ValueFault) → flaw kind s ≡ r → MatchOption r ((v : Value) × Means kind s v) (λ f. RefusesData kind s f)
  by None e = valued law kind s o e
  by (Some f) e = flawed law kind s f o (sym e)

pub one_or_other : FlawDecides → ValueOrFault
one_or_other law kind s o = by (flaw kind s) (law kind s (λ g. o)) where
  by : (r : Option ValueFault) → MatchOption r ((v : Value) × Means kind s v) (λ f. RefusesData kind s f) →
      ((v : Value) × Means kind s v) ⊎ ((f : ValueFault) × RefusesData kind s f)
  by None m = inl m
  by (Some f) m = inr (f, m)
