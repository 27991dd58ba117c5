-- The value in octets is the one that they mean.
use Rattle.std.proofs.Common.{◌≡◌, ◌≢◌, ℕ, Bool, true, false, nat_eq, if◌then◌else◌, List, [], drop, refl, sym, ◌∙◌, ap, eqb-true}
use Rattle.std.specs.Prelude.{unwrap_or}
use Rattle.dm_wire.specs.Members.{SpelledAreMembers}
use Rattle.dm_value.specs.declared.avp_type.AvpType.{AvpType}
use Rattle.dm_value.specs.declared.avp_type.AvpType.TheVariants.{OctetString, Integer32, Integer64, Unsigned32, Unsigned64, Address, Time, UTF8String, DiameterIdentity, DiameterURI, Enumerated, Grouped}
use Rattle.dm_value.specs.declared.value.Value.{Value}
use Rattle.dm_value.specs.declared.value.Value.TheVariants as value
use Rattle.dm_value.specs.declared.address.Address.{Address as AnAddress}
use Rattle.dm_value.specs.declared.address.Address.TheVariants as address
use Rattle.dm_value.specs.declared.address.Ip.TheVariants.{V4, V6}
use Rattle.dm_value.specs.Columns.{family}
use Rattle.dm_value.specs.Meaning.{Means}
use Rattle.dm_value.specs.ValueIn.{address_in, value_in}

-- an address of another family
other : (s : List ℕ) (n : ℕ) (rest : List ℕ) → n ≡ family s → rest ≡ drop 2 s → n ≢ 1 → n ≢ 2
    → address_in s ≡ address.Other n rest
other s n rest is behind not_1 not_2 = by (nat_eq (family s) 1) refl (nat_eq (family s) 2) refl where
  by : (b : Bool) → nat_eq (family s) 1 ≡ b → (c : Bool) → nat_eq (family s) 2 ≡ c
      → (if b then address.Ip (V4 (drop 2 s)) else (if c then address.Ip (V6 (drop 2 s)) else address.Other (family s) (drop 2 s)))
      ≡ address.Other n rest
  by true e c f = absurd (not_1 (is ∙ eqb-true (family s) 1 e))
  by false e true f = absurd (not_2 (is ∙ eqb-true (family s) 2 f))
  by false e false f = rw (is, behind) refl

address_meant : (s : List ℕ) (a : AnAddress) → Means Address s (value.Addr a) → address_in s ≡ a
address_meant s (address.Ip (V4 a)) h = rw (h.0) refl
address_meant s (address.Ip (V6 a)) h = rw (h.0) refl
address_meant s (address.Other n rest) h = other s n rest h.1 h.2 h.3 h.4

pub value_meant : SpelledAreMembers → (kind : AvpType) (s : List ℕ) (v : Value) → Means kind s v → value_in kind s ≡ v
value_meant m OctetString s (value.Bytes b) h = ap value.Bytes (sym h)
value_meant m Integer32 s (value.Int32 n) h = ap value.Int32 (sym h.1)
value_meant m Integer64 s (value.Int64 n) h = ap value.Int64 (sym h.1)
value_meant m Unsigned32 s (value.Uint32 n) h = ap value.Uint32 (sym h.1)
value_meant m Unsigned64 s (value.Uint64 n) h = ap value.Uint64 (sym h.1)
value_meant m Address s (value.Addr a) h = ap value.Addr (address_meant s a h)
value_meant m Time s (value.Time n) h = ap value.Time (sym h.1)
value_meant m UTF8String s (value.Text t) h = ap value.Text (sym h.0)
value_meant m DiameterIdentity s (value.Identity b) h = ap value.Identity (sym h.0)
value_meant m DiameterURI s (value.Uri b) h = ap value.Uri (sym h.0)
value_meant m Enumerated s (value.Enumerated n) h = ap value.Enumerated (sym h.1)
value_meant m Grouped s (value.Group l) h = ap (λ o. value.Group (unwrap_or o [])) (m s l h)
value_meant m _ s _ h = absurd h
