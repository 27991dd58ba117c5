-- The least lengths.
use Rattle.std.proofs.Common.{◌≡◌, ◌≢◌, ◌≤◌, ℕ, Bool, true, false, nat_eq, eqb-true, List, [], ◌∷◌, length, refl, arith, inl}
use Rattle.std.specs.Prelude.{codes}
use Rattle.std.specs.List.{All, list_all}
use Rattle.std.proofs.lemmas.Bool.{eqb-false}
use Rattle.std.proofs.lemmas.Str.{IsUtf8-nil}
use Rattle.dm_value.specs.declared.avp_type.AvpType.{AvpType}
use Rattle.dm_value.specs.declared.avp_type.AvpType.TheVariants.{OctetString, Integer32, Integer64, Unsigned32, Unsigned64, Address, Time, UTF8String, DiameterIdentity, DiameterURI, Enumerated, Grouped}
use Rattle.dm_value.specs.declared.value.Value.{Value}
use Rattle.dm_value.specs.declared.value.Value.TheVariants as value
use Rattle.dm_value.specs.declared.address.Address.TheVariants as address
use Rattle.dm_value.specs.Columns.{least_length as least, IsVisibleOctet, HasWrongLength}
use Rattle.dm_value.specs.Flaws.{is_visible}
use Rattle.dm_value.specs.Meaning.{Means}
use Rattle.dm_value.proofs.Decided.{Decides-all_visible}
use Rattle.dm_value.proofs.Meanings.{no_fault}

same_by : (n m : ℕ) → ((n ≢ m) → ⊥) → n ≡ m
same_by n m h = by (nat_eq n m) refl where
  by : (b : Bool) → nat_eq n m ≡ b → n ≡ m
  by true e = eqb-true n m e
  by false e = absurd (h (eqb-false n m e))

long : (kind : AvpType) (s : List ℕ) → (HasWrongLength kind s → ⊥) → least kind ≤ length s
long OctetString s h = omega arith
long Integer32 s h = omega (arith, same_by (length s) 4 h)
long Integer64 s h = omega (arith, same_by (length s) 8 h)
long Unsigned32 s h = omega (arith, same_by (length s) 4 h)
long Unsigned64 s h = omega (arith, same_by (length s) 8 h)
long Address s h = omega arith
long Time s h = omega (arith, same_by (length s) 4 h)
long UTF8String s h = omega arith
long DiameterIdentity [] h = absurd (h refl)
long DiameterIdentity (x ∷ s) h = omega arith
long DiameterURI s h = omega arith
long Enumerated s h = omega (arith, same_by (length s) 4 h)
long Grouped s h = omega arith

at_least : (kind : AvpType) (s : List ℕ) (v : Value) → Means kind s v → least kind ≤ length s
at_least kind s v h = long kind s (no_fault kind s v h).0

all_visible : (s : List ℕ) → list_all is_visible s ≡ true → All IsVisibleOctet s
all_visible s e = (Decides-all_visible s).0 e

attained : (kind : AvpType) → (s : List ℕ) × (v : Value) × Means kind s v × (length s ≡ least kind)
attained OctetString = ([], value.Bytes [], refl, refl)
attained Integer32 = (0 ∷ 0 ∷ 0 ∷ 0 ∷ [], value.Int32 _, (refl, refl), refl)
attained Integer64 = (0 ∷ 0 ∷ 0 ∷ 0 ∷ 0 ∷ 0 ∷ 0 ∷ 0 ∷ [], value.Int64 _, (refl, refl), refl)
attained Unsigned32 = (0 ∷ 0 ∷ 0 ∷ 0 ∷ [], value.Uint32 _, (refl, refl), refl)
attained Unsigned64 = (0 ∷ 0 ∷ 0 ∷ 0 ∷ 0 ∷ 0 ∷ 0 ∷ 0 ∷ [], value.Uint64 _, (refl, refl), refl)
attained Address =
    (0 ∷ 0 ∷ [], value.Addr (address.Other 0 []), (omega arith, refl, refl, (λ e. (cc)), (λ e. (cc))), refl)
attained Time = (0 ∷ 0 ∷ 0 ∷ 0 ∷ [], value.Time _, (refl, refl), refl)
attained UTF8String = ([], value.Text [], (refl, IsUtf8-nil), refl)
attained DiameterIdentity = (97 ∷ [], value.Identity (97 ∷ []), (refl, (λ e. (cc)), all_visible (97 ∷ []) refl), refl)
attained DiameterURI = (
  codes "aaa://h",
  value.Uri (codes "aaa://h"),
  (refl, (104 ∷ [], inl refl, (λ e. (cc)), all_visible (104 ∷ []) refl)),
  refl,
)
attained Enumerated = (0 ∷ 0 ∷ 0 ∷ 0 ∷ [], value.Enumerated _, (refl, refl), refl)
attained Grouped = ([], value.Group [], refl, refl)

pub least_length : (kind : AvpType) → ((s : List ℕ) (v : Value) → Means kind s v → least kind ≤ length s) ×
    ((s : List ℕ) × (v : Value) × Means kind s v × (length s ≡ least kind))
least_length kind = (at_least kind, attained kind)
