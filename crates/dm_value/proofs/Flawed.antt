-- A flaw is what the columns say.
use Rattle.std.proofs.Common.{◌≡◌, ◌≢◌, ◌<◌, ◌⊎◌, inl, inr, ℕ, Bool, true, false, nat_eq, nat_lt, Option, Some, None, List, [], ◌∷◌, length, refl, sym, subst, ap, ◌∙◌, arith, eqb-true}
use Rattle.std.specs.Prelude.{IfSome, is_some, if◌then◌else◌}
use Rattle.std.specs.List.{All, list_all}
use Rattle.std.proofs.lemmas.Bool.{ltb-true, lt-ltb, eqb-false, false≢true}
use Rattle.dm_wire.specs.declared.avp.Avp.{Avp}
use Rattle.dm_wire.specs.Members.{members, MembersSpell}
use Rattle.dm_value.specs.declared.avp_type.AvpType.{AvpType}
use Rattle.dm_value.specs.declared.avp_type.AvpType.TheVariants.{OctetString, Integer32, Integer64, Unsigned32, Unsigned64, Address, Time, UTF8String, DiameterIdentity, DiameterURI, Enumerated, Grouped}
use Rattle.dm_value.specs.declared.fault.ValueFault.{ValueFault}
use Rattle.dm_value.specs.declared.fault.ValueFault.TheVariants.{WrongLength, WrongValue}
use Rattle.dm_value.specs.Columns.{IsVisibleOctet, HasUriForm, HasWrongLength, HasWrongValue, RefusesData}
use Rattle.dm_wire.specs.Octets.{AreOctets}
use Rattle.dm_value.specs.Flaws.{flaw, is_visible, is_uri, sized, tested}
use Rattle.dm_value.proofs.Decided.{Refutes, Refutes-from_Decides, Refutes-size, Decides-utf8, Decides-all_visible, Decides-uri}

-- an answer is of the two columns
abbrev IsOfColumns : Option ValueFault → Type 0
IsOfColumns r = IfSome r (λ f. (f ≡ WrongLength) ⊎ (f ≡ WrongValue))

-- what an answer tells of a type whose columns are L and V, the length first
abbrev pub Tells : Option ValueFault → Type 0 → Type 0 → Type 0
Tells r L V =
    ((r ≡ Some WrongLength → L) × (L → r ≡ Some WrongLength))
    × ((r ≡ Some WrongValue → (L → ⊥) × V) × ((L → ⊥) → V → r ≡ Some WrongValue)) × IsOfColumns r

never : Tells None ⊥ ⊥
never = ((λ e. (cc), λ h. absurd h), (λ e. (cc), λ h v. absurd v), tt)

sized_tells : (n : ℕ) (s : List ℕ) → Tells (sized n s) (length s ≢ n) ⊥
sized_tells n s = by (nat_eq (length s) n) refl where
  by : (b : Bool) → nat_eq (length s) n ≡ b → Tells (if b then None else Some WrongLength) (length s ≢ n) ⊥
  by true e = ((λ f. (cc), λ h. absurd (h (eqb-true (length s) n e))), (λ f. (cc), λ h v. absurd v), tt)
  by false e = ((λ f. eqb-false (length s) n e, λ h. refl), (λ f. (cc), λ h v. absurd v), inl refl)

tested_tells : {V : Type 0} (n : ℕ) (right : Bool) (s : List ℕ) → Refutes right V →
    Tells (tested n right s) (length s < n) V
tested_tells {V = V} n right s d = by (nat_lt (length s) n) right refl refl where
  by : (b r : Bool) → nat_lt (length s) n ≡ b → right ≡ r →
      Tells (if b then Some WrongLength else (if r then None else Some WrongValue)) (length s < n) V
  by true r e f =
      ((λ _. ltb-true (length s) n e, λ _. refl), (λ k. (cc), λ h v. absurd (h (ltb-true (length s) n e))), inl refl)
  by false true e f =
      ((λ k. (cc), λ h. absurd (false≢true (sym e ∙ lt-ltb (length s) n h))), (λ k. (cc), λ h v. absurd (d.0 f v)), tt)
  by false false e f = (
    (λ k. (cc), λ h. absurd (false≢true (sym e ∙ lt-ltb (length s) n h))),
    (λ k. (λ h. false≢true (sym e ∙ lt-ltb (length s) n h), d.1 f), λ h v. refl),
    inr refl,
  )

-- the same column in other words
tells_like : {V L M : Type 0} (r : Option ValueFault) → (L → M) → (M → L) → Tells r L V → Tells r M V
tells_like r f g t = (
  (λ e. f (t.0.0 e), λ m. t.0.1 (g m)),
  (λ e. (λ m. (t.1.0 e).0 (g m), (t.1.0 e).1), λ h v. t.1.1 (λ l. h (f l)) v),
  t.2,
)

empty : (s : List ℕ) → length s < 1 → s ≡ []
empty [] h = refl
empty (x ∷ s) h = absurd (omega arith)

no_octets : (s : List ℕ) → s ≡ [] → length s < 1
no_octets s e = rw e (omega arith)

pub flaw_tells : (kind : AvpType) (s : List ℕ) → kind ≢ Grouped →
    Tells (flaw kind s) (HasWrongLength kind s) (HasWrongValue kind s)
flaw_tells OctetString s g = never
flaw_tells Integer32 s g = sized_tells 4 s
flaw_tells Integer64 s g = sized_tells 8 s
flaw_tells Unsigned32 s g = sized_tells 4 s
flaw_tells Unsigned64 s g = sized_tells 8 s
flaw_tells Address s g = tested_tells 2 _ s (Refutes-size s)
flaw_tells Time s g = sized_tells 4 s
flaw_tells UTF8String s g =
    tells_like _ (λ h. omega (arith, h)) (λ h. absurd h) (tested_tells 0 _ s (Refutes-from_Decides _ (Decides-utf8 s)))
flaw_tells DiameterIdentity s g =
    tells_like _ (empty s) (no_octets s) (tested_tells 1 _ s (Refutes-from_Decides _ (Decides-all_visible s)))
flaw_tells DiameterURI s g = tested_tells 7 _ s (Refutes-from_Decides _ (Decides-uri s))
flaw_tells Enumerated s g = sized_tells 4 s
flaw_tells Grouped s g = absurd (g refl)

-- a group has a wrong length just where its octets aren't AVPs
group_tells : MembersSpell → (s : List ℕ) → AreOctets s →
    Tells (flaw Grouped s) (HasWrongLength Grouped s) (HasWrongValue Grouped s)
group_tells law s o = by (members s) refl where
  by : (m : Option (List Avp)) → members s ≡ m →
      Tells (if is_some m then None else Some WrongLength) (HasWrongLength Grouped s) ⊥
  by None e =
      let never : HasWrongLength Grouped s = (λ l h. let some = (law s l o).1 h in absurd (cc)) in
      ((λ f. never, λ h. refl), (λ f. (cc), λ h v. absurd v), inl refl)
  by (Some l) e = ((λ f. (cc), λ h. absurd (h l ((law s l o).0 e))), (λ f. (cc), λ h v. absurd v), tt)

-- of octets of any type
pub any_tells : MembersSpell → (kind : AvpType) (s : List ℕ) → AreOctets s →
    Tells (flaw kind s) (HasWrongLength kind s) (HasWrongValue kind s)
any_tells law Grouped s o = group_tells law s o
any_tells law kind s o = flaw_tells kind s (λ g. (cc))

-- an answer that tells of both columns is a fault of the octets
pub told_fault : (r : Option ValueFault) (kind : AvpType) (s : List ℕ) →
    Tells r (HasWrongLength kind s) (HasWrongValue kind s) → IfSome r (λ f. RefusesData kind s f)
told_fault None kind s t = tt
told_fault (Some f) kind s t = elim t.2 [
  | inl w ↦ subst (RefusesData kind s) (sym w) (t.0.0 (ap Some w))
  | inr w ↦ subst (RefusesData kind s) (sym w) (t.1.0 (ap Some w))
]

-- an answer that is the flaw is a fault of the octets
pub fault_by_flaw : (r : Option ValueFault) (kind : AvpType) (s : List ℕ) → kind ≢ Grouped → r ≡ flaw kind s →
    IfSome r (λ f. RefusesData kind s f)
fault_by_flaw r kind s g e =
    told_fault r kind s
    (subst (λ (x : Option ValueFault). Tells x (HasWrongLength kind s) (HasWrongValue kind s)) (sym e)
    (flaw_tells kind s g))

-- octets with no flaw pass the test of their type
tested_none : (n : ℕ) (right : Bool) (s : List ℕ) → tested n right s ≡ None → right ≡ true
tested_none n right s e = by (nat_lt (length s) n) right e where
  by : (b r : Bool) → (if b then Some WrongLength else (if r then None else Some WrongValue)) ≡ None → r ≡ true
  by true r e = (cc)
  by false true e = refl
  by false false e = (cc)

pub uri_from_none : (s : List ℕ) → flaw DiameterURI s ≡ None → HasUriForm s
uri_from_none s e = (Decides-uri s).0 (tested_none 7 (is_uri s) s e)

pub identity_from_none : (s : List ℕ) → flaw DiameterIdentity s ≡ None → (s ≢ []) × All IsVisibleOctet s
identity_from_none s e = (
  λ z. (cc ((flaw_tells DiameterIdentity s (λ g. (cc))).0.1 z, e)),
  (Decides-all_visible s).0 (tested_none 1 (list_all is_visible s) s e),
)
