-- Octets of a type have one value at most, and a value rules a fault out.
use Rattle.std.proofs.Common.{◌≡◌, ◌≢◌, ◌<◌, ◌≤◌, inl, inr, ℕ, ◌+◌, List, [], ◌∷◌, length, refl, sym, ◌∙◌, ap, arith, length-append}
use Rattle.std.specs.Prelude.{Result, Ok, Err, IfOk, codes}
use Rattle.dm_wire.specs.OneAnswer.{OneList}
use Rattle.dm_value.specs.declared.avp_type.AvpType.{AvpType}
use Rattle.dm_value.specs.declared.avp_type.AvpType.TheVariants.{OctetString, Integer32, Integer64, Unsigned32, Unsigned64, Address, Time, UTF8String, DiameterIdentity, DiameterURI, Enumerated, Grouped}
use Rattle.dm_value.specs.declared.fault.ValueFault.{ValueFault}
use Rattle.dm_value.specs.declared.fault.ValueFault.TheVariants as fault
use Rattle.dm_value.specs.declared.value.Value.{Value}
use Rattle.dm_value.specs.declared.value.Value.TheVariants as value
use Rattle.dm_value.specs.declared.address.Address.{Address as AnAddress}
use Rattle.dm_value.specs.declared.address.Address.TheVariants as address
use Rattle.dm_value.specs.declared.address.Ip.TheVariants.{V4, V6}
use Rattle.dm_value.specs.Columns.{family, HasUriForm, HasWrongLength, HasWrongValue, RefusesData}
use Rattle.dm_value.specs.Meaning.{Means, type_of}
use Rattle.dm_value.specs.OneValue.{OneValue}

-- the octets of addresses of families 1 and 2
family-4 : (s a : List ℕ) → s ≡ 0 ∷ 1 ∷ a → family s ≡ 1
family-4 s a e = ap family e

family-6 : (s a : List ℕ) → s ≡ 0 ∷ 2 ∷ a → family s ≡ 2
family-6 s a e = ap family e

same_address : (s : List ℕ) (a b : AnAddress) → Means Address s (value.Addr a) → Means Address s (value.Addr b) → a ≡ b
same_address s (address.Ip (V4 a)) (address.Ip (V4 b)) h g = (cc)
same_address s (address.Ip (V6 a)) (address.Ip (V6 b)) h g = (cc)
same_address s (address.Ip (V4 a)) (address.Ip (V6 b)) h g =
    absurd (omega (arith, sym (family-4 s a h.0) ∙ family-6 s b g.0))
same_address s (address.Ip (V6 a)) (address.Ip (V4 b)) h g =
    absurd (omega (arith, sym (family-4 s b g.0) ∙ family-6 s a h.0))
same_address s (address.Ip (V4 a)) (address.Other n r) h g = absurd (g.3 (g.1 ∙ family-4 s a h.0))
same_address s (address.Ip (V6 a)) (address.Other n r) h g = absurd (g.4 (g.1 ∙ family-6 s a h.0))
same_address s (address.Other n r) (address.Ip (V4 a)) h g = absurd (h.3 (h.1 ∙ family-4 s a g.0))
same_address s (address.Other n r) (address.Ip (V6 a)) h g = absurd (h.4 (h.1 ∙ family-6 s a g.0))
same_address s (address.Other n r) (address.Other m t) h g = (cc)

-- octets of a type have at most one value
pub one_value : OneList → (kind : AvpType) (s : List ℕ) (v w : Value) → Means kind s v → Means kind s w → v ≡ w
one_value one_list OctetString s (value.Bytes b) (value.Bytes c) h g = ap value.Bytes (h ∙ sym g)
one_value one_list OctetString s (value.Bytes b) _ h g = absurd g
one_value one_list OctetString s _ w h g = absurd h
one_value one_list Integer32 s (value.Int32 n) (value.Int32 m) h g = ap value.Int32 (h.1 ∙ sym g.1)
one_value one_list Integer32 s (value.Int32 n) _ h g = absurd g
one_value one_list Integer32 s _ w h g = absurd h
one_value one_list Integer64 s (value.Int64 n) (value.Int64 m) h g = ap value.Int64 (h.1 ∙ sym g.1)
one_value one_list Integer64 s (value.Int64 n) _ h g = absurd g
one_value one_list Integer64 s _ w h g = absurd h
one_value one_list Unsigned32 s (value.Uint32 n) (value.Uint32 m) h g = ap value.Uint32 (h.1 ∙ sym g.1)
one_value one_list Unsigned32 s (value.Uint32 n) _ h g = absurd g
one_value one_list Unsigned32 s _ w h g = absurd h
one_value one_list Unsigned64 s (value.Uint64 n) (value.Uint64 m) h g = ap value.Uint64 (h.1 ∙ sym g.1)
one_value one_list Unsigned64 s (value.Uint64 n) _ h g = absurd g
one_value one_list Unsigned64 s _ w h g = absurd h
one_value one_list Address s (value.Addr a) (value.Addr b) h g = ap value.Addr (same_address s a b h g)
one_value one_list Address s (value.Addr a) _ h g = absurd g
one_value one_list Address s _ w h g = absurd h
one_value one_list Time s (value.Time n) (value.Time m) h g = ap value.Time (h.1 ∙ sym g.1)
one_value one_list Time s (value.Time n) _ h g = absurd g
one_value one_list Time s _ w h g = absurd h
one_value one_list UTF8String s (value.Text t) (value.Text u) h g = ap value.Text (h.0 ∙ sym g.0)
one_value one_list UTF8String s (value.Text t) _ h g = absurd g
one_value one_list UTF8String s _ w h g = absurd h
one_value one_list DiameterIdentity s (value.Identity b) (value.Identity c) h g = ap value.Identity (h.0 ∙ sym g.0)
one_value one_list DiameterIdentity s (value.Identity b) _ h g = absurd g
one_value one_list DiameterIdentity s _ w h g = absurd h
one_value one_list DiameterURI s (value.Uri b) (value.Uri c) h g = ap value.Uri (h.0 ∙ sym g.0)
one_value one_list DiameterURI s (value.Uri b) _ h g = absurd g
one_value one_list DiameterURI s _ w h g = absurd h
one_value one_list Enumerated s (value.Enumerated n) (value.Enumerated m) h g = ap value.Enumerated (h.1 ∙ sym g.1)
one_value one_list Enumerated s (value.Enumerated n) _ h g = absurd g
one_value one_list Enumerated s _ w h g = absurd h
one_value one_list Grouped s (value.Group l) (value.Group k) h g = ap value.Group (one_list l k s h g)
one_value one_list Grouped s (value.Group l) _ h g = absurd g
one_value one_list Grouped s _ w h g = absurd h

-- a value is of the one type whose octets have it
pub one_type : (kind : AvpType) (s : List ℕ) (v : Value) → Means kind s v → kind ≡ type_of v
one_type OctetString s (value.Bytes b) h = refl
one_type Integer32 s (value.Int32 n) h = refl
one_type Integer64 s (value.Int64 n) h = refl
one_type Unsigned32 s (value.Uint32 n) h = refl
one_type Unsigned64 s (value.Uint64 n) h = refl
one_type Address s (value.Addr a) h = refl
one_type Time s (value.Time n) h = refl
one_type UTF8String s (value.Text t) h = refl
one_type DiameterIdentity s (value.Identity b) h = refl
one_type DiameterURI s (value.Uri b) h = refl
one_type Enumerated s (value.Enumerated n) h = refl
one_type Grouped s (value.Group l) h = refl
one_type _ s _ h = absurd h

no_wrong_address : (s : List ℕ) (a : AnAddress) → Means Address s (value.Addr a) →
    (length s < 2 → ⊥) × (HasWrongValue Address s → ⊥)
no_wrong_address s (address.Ip (V4 a)) h =
    let size : length s ≡ length a + 2 = ap length h.0 ∙ omega arith in (
      λ k. omega arith,
      λ k. elim k [ inl w ↦ w.1 (omega (arith, h.1)) | inr w ↦ omega (arith, sym (family-4 s a h.0) ∙ w.0) ],
    )
no_wrong_address s (address.Ip (V6 a)) h =
    let size : length s ≡ length a + 2 = ap length h.0 ∙ omega arith in (
      λ k. omega arith,
      λ k. elim k [ inl w ↦ omega (arith, sym (family-6 s a h.0) ∙ w.0) | inr w ↦ w.1 (omega (arith, h.1)) ],
    )
no_wrong_address s (address.Other n r) h = (
  λ k. omega arith,
  λ k. elim k [ inl w ↦ h.3 (h.1 ∙ w.0) | inr w ↦ h.4 (h.1 ∙ w.0) ],
)

not_empty : (s : List ℕ) → s ≢ [] → 0 < length s
not_empty [] h = absurd (h refl)
not_empty (x ∷ s) h = omega arith

-- a URI has 7 octets or more
uri_long : (s : List ℕ) → HasUriForm s → 7 ≤ length s
uri_long s (rest, inl e, some, all) =
    let more = not_empty rest some in
    let size = ap length e ∙ length-append (codes "aaa://") rest in
    omega arith
uri_long s (rest, inr e, some, all) =
    let size = ap length e ∙ length-append (codes "aaas://") rest in
    omega arith

-- what has a value has no fault
pub no_fault : (kind : AvpType) (s : List ℕ) (v : Value) → Means kind s v →
    (HasWrongLength kind s → ⊥) × (HasWrongValue kind s → ⊥)
no_fault OctetString s (value.Bytes b) h = (λ k. k, λ k. k)
no_fault Integer32 s (value.Int32 n) h = (λ k. k h.0, λ k. k)
no_fault Integer64 s (value.Int64 n) h = (λ k. k h.0, λ k. k)
no_fault Unsigned32 s (value.Uint32 n) h = (λ k. k h.0, λ k. k)
no_fault Unsigned64 s (value.Uint64 n) h = (λ k. k h.0, λ k. k)
no_fault Address s (value.Addr a) h = no_wrong_address s a h
no_fault Time s (value.Time n) h = (λ k. k h.0, λ k. k)
no_fault UTF8String s (value.Text t) h = (λ k. k, λ k. k h.1)
no_fault DiameterIdentity s (value.Identity b) h = (λ k. h.1 k, λ k. k h.2)
no_fault DiameterURI s (value.Uri b) h = (λ k. omega (arith, uri_long s h.1), λ k. k h.1)
no_fault Enumerated s (value.Enumerated n) h = (λ k. k h.0, λ k. k)
no_fault Grouped s (value.Group l) h = (λ k. k l h, λ k. k)
no_fault _ s _ h = absurd h

pub not_refused : (f : ValueFault) (kind : AvpType) (s : List ℕ) (v : Value) → RefusesData kind s f → Means kind s v → ⊥
not_refused fault.WrongLength kind s v r h = (no_fault kind s v h).0 r
not_refused fault.WrongValue kind s v r h = (no_fault kind s v h).1 r.1
not_refused fault.TooLong kind s v r h = r
not_refused fault.NoMemory kind s v r h = r

-- octets that have a value have no other
pub only_one : {T E : Type 0} → OneValue → (r : Result T E) (octets : T → List ℕ) (kind : AvpType) (v : Value) →
    IfOk r (λ t. Means kind (octets t) v) → IfOk r (λ t. (w : Value) → Means kind (octets t) w → w ≡ v)
only_one one (Ok t) octets kind v h = λ w g. one kind (octets t) w v g h
only_one one (Err e) octets kind v h = tt
