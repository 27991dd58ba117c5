-- Which values have octets.
use Rattle.std.proofs.Common.{ℕ, ◌≡◌, ◌≢◌, ◌<◌, ◌⊎◌, inl, inr, ◌^◌, Option, Some, None, List, [], ◌∷◌, ◌++◌, refl, sym, ◌∙◌, ap, arith}
use Rattle.std.specs.Prelude.{Result, Ok, Err, IfErr, IsErrOf, FitsSigned, ◌↔◌, ℤ}
use Rattle.std.specs.Int.{cast_signed, cast_unsigned, w32, w64}
use Rattle.std.specs.List.{All}
use Rattle.std.proofs.lemmas.Int.{ints, to_z-of_z}
use Rattle.byteorder.specs.Endian.{big_number}
use Rattle.byteorder.specs.Numbers.{big_number-reads_back}
use Rattle.dm_wire.specs.declared.avp.Avp.{Avp}
use Rattle.dm_wire.specs.Spelling.{be}
use Rattle.dm_wire.specs.Limits.{IsLongList}
use Rattle.dm_value.specs.declared.avp_type.AvpType.{AvpType}
use Rattle.dm_value.specs.declared.avp_type.AvpType.TheVariants.{DiameterIdentity, DiameterURI, Grouped}
use Rattle.dm_value.specs.declared.fault.ValueFault.{ValueFault}
use Rattle.dm_value.specs.declared.fault.ValueFault.TheVariants as fault
use Rattle.dm_value.specs.declared.value.Value.{Value}
use Rattle.dm_value.specs.declared.value.Value.TheVariants as value
use Rattle.dm_value.specs.declared.address.Address.TheVariants as address
use Rattle.dm_value.specs.declared.address.Ip.TheVariants.{V4, V6}
use Rattle.dm_value.specs.Columns.{IsVisibleOctet, HasUriForm}
use Rattle.dm_value.specs.Flaws.{flaw}
use Rattle.dm_value.specs.Meaning.{Means, IsInRange, HasNoOctets, HasLongMember, IsMisshapen}
use Rattle.dm_value.proofs.Flawed.{fault_by_flaw, uri_from_none, identity_from_none}
use Rattle.dm_value.proofs.Meanings.{not_refused}

-- what has a value has no flaw
no_flaw : (kind : AvpType) (s : List ℕ) (v : Value) → kind ≢ Grouped → Means kind s v → flaw kind s ≡ None
no_flaw kind s v g h = by (flaw kind s) refl where
  by : (r : Option ValueFault) → r ≡ flaw kind s → r ≡ None
  by None e = refl
  by (Some f) e = absurd (not_refused f kind s v (fault_by_flaw (Some f) kind s g e) h)

none_by : (r : Option ValueFault) → ((r ≢ None) → ⊥) → r ≡ None
none_by None h = refl
none_by (Some f) h = absurd (h (λ e. (cc)))

pub shaped_uri : (b : List ℕ) → (flaw DiameterURI b ≢ None → ⊥) → HasUriForm b
shaped_uri b h = uri_from_none b (none_by (flaw DiameterURI b) h)

shaped_identity : (b : List ℕ) → (flaw DiameterIdentity b ≢ None → ⊥) → (b ≢ []) × All IsVisibleOctet b
shaped_identity b h = identity_from_none b (none_by (flaw DiameterIdentity b) h)

-- a misshapen value has no octets, and not for a member's length
misshapen_none : (v : Value) → IsMisshapen v → HasNoOctets v
misshapen_none (value.Addr (address.Other n rest)) (inl e) s h = h.3 e
misshapen_none (value.Addr (address.Other n rest)) (inr e) s h = h.4 e
misshapen_none (value.Identity b) m s h =
    m (ap (flaw DiameterIdentity) h.0 ∙ no_flaw DiameterIdentity s (value.Identity b) (λ e. (cc)) h)
misshapen_none (value.Uri b) m s h = m (ap (flaw DiameterURI) h.0 ∙ no_flaw DiameterURI s (value.Uri b) (λ e. (cc)) h)
misshapen_none _ m s h = absurd m

misshapen_short : (v : Value) → IsMisshapen v → HasLongMember v → ⊥
misshapen_short (value.Group l) m h = m
misshapen_short _ m h = h

-- a signed number is that of its octets
back_32 : (n : ℤ) → FitsSigned w32 n → n ≡ cast_signed w32 (big_number 4 (be (cast_unsigned w32 n) 4))
back_32 n f =
    let below : cast_unsigned w32 n < 256 ^ 4 = omega (arith, ints) in
    sym (ap (cast_signed w32) (big_number-reads_back 4 (cast_unsigned w32 n) [] below) ∙ to_z-of_z w32 n f)

back_64 : (n : ℤ) → FitsSigned w64 n → n ≡ cast_signed w64 (big_number 8 (be (cast_unsigned w64 n) 8))
back_64 n f =
    let below : cast_unsigned w64 n < 256 ^ 8 = omega (arith, ints) in
    sym (ap (cast_signed w64) (big_number-reads_back 8 (cast_unsigned w64 n) [] below) ∙ to_z-of_z w64 n f)

-- any other value has some, unless a member of a group is too long
has_octets : (v : Value) → IsInRange v → (IsMisshapen v → ⊥) →
    ((l : List Avp) → v ≡ value.Group l → HasNoOctets v → IsLongList l) → (HasLongMember v → ⊥) → HasNoOctets v → ⊥
has_octets (value.Bytes b) r m g k h = h b refl
has_octets (value.Int32 n) r m g k h = h (be (cast_unsigned w32 n) 4) (refl, back_32 n r)
has_octets (value.Int64 n) r m g k h = h (be (cast_unsigned w64 n) 8) (refl, back_64 n r)
has_octets (value.Uint32 n) r m g k h = h (be n 4) (refl, sym (big_number-reads_back 4 n [] r))
has_octets (value.Uint64 n) r m g k h = h (be n 8) (refl, sym (big_number-reads_back 8 n [] r))
has_octets (value.Addr (address.Ip (V4 a))) r m g k h = h (0 ∷ 1 ∷ a) (refl, r)
has_octets (value.Addr (address.Ip (V6 a))) r m g k h = h (0 ∷ 2 ∷ a) (refl, r)
has_octets (value.Addr (address.Other n rest)) r m g k h =
    h (be n 2 ++ rest) (omega arith, sym (big_number-reads_back 2 n rest r), refl, (λ e. m (inl e)), (λ e. m (inr e)))
has_octets (value.Time n) r m g k h = h (be n 4) (refl, sym (big_number-reads_back 4 n [] r))
has_octets (value.Text t) r m g k h = h t (refl, r)
has_octets (value.Identity b) r m g k h = let i = shaped_identity b m in h b (refl, i.0, i.1)
has_octets (value.Uri b) r m g k h = h b (refl, shaped_uri b m)
has_octets (value.Enumerated n) r m g k h = h (be (cast_unsigned w32 n) 4) (refl, back_32 n r)
has_octets (value.Group l) r m g k h = k (g l refl h)

-- the answer where the value is misshapen
pub value_of_misshapen : (v : Value) → IsMisshapen v → HasNoOctets v × (HasLongMember v → ⊥)
value_of_misshapen v m = (misshapen_none v m, misshapen_short v m)

-- no other answer is WrongValue, and then octets have the value or a member is too long
pub value_of_shaped : {T : Type 0} (r : Result T ValueFault) (v : Value) →
    IfErr r (λ f. (f ≡ fault.TooLong) ⊎ (f ≡ fault.NoMemory)) → IsInRange v → (IsMisshapen v → ⊥) →
    ((l : List Avp) → v ≡ value.Group l → HasNoOctets v → IsLongList l) →
    IsErrOf r fault.WrongValue ↔ (HasNoOctets v × (HasLongMember v → ⊥))
value_of_shaped (Ok t) v why range shaped group = (λ e. (cc), λ h. absurd (has_octets v range shaped group h.1 h.0))
value_of_shaped (Err f) v why range shaped group =
    (λ e. elim why [ inl w ↦ (cc) | inr w ↦ (cc) ], λ h. absurd (has_octets v range shaped group h.1 h.0))
