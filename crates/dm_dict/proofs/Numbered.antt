-- One AVP more is numbered.
use Rattle.std.proofs.Common.{◌≡◌, ◌<◌, ◌≤◌, ℕ, suc, ◌+◌, Bool, true, false, true≢false, nat_eq, if◌then◌else◌, Option, None, Some, List, [], ◌∷◌, ◌++◌, length, refl, sym, ap, ◌∙◌, arith}
use Rattle.std.proofs.lemmas.Bool.{eqb-true, and_parts}
use Rattle.std.specs.List.{filter}
use Rattle.std.specs.Option.{option_eq}
use Rattle.dm_wire.specs.declared.avp.Avp.{Avp}
use Rattle.dm_tables.specs.declared.def.AvpDef.{AvpDef}
use Rattle.dm_dict.specs.declared.path.Path.{Path}
use Rattle.dm_dict.specs.Located.{is_alike}
use Rattle.dm_dict.specs.Numbers.{is_key_of, times_counted, is_wanted, AreNumbered}
use Rattle.dm_dict.specs.Rules.{definition}

same_vendor : (v w : Option ℕ) → option_eq nat_eq v w ≡ true → v ≡ w
same_vendor None None is = refl
same_vendor None (Some w) is = absurd (true≢false (sym is))
same_vendor (Some v) None is = absurd (true≢false (sym is))
same_vendor (Some v) (Some w) is = ap Some (eqb-true v w is)

-- with one AVP more
one_passed : (q : Avp → Bool) (l : List Avp) (a : Avp) → length (filter q (l ++ a ∷ [])) ≡ (if q a then length (filter q l) + 1 else length (filter q l))
one_passed q [] a = by (q a) refl where
  by : (b : Bool) → q a ≡ b → length (filter q (a ∷ [])) ≡ (if q a then 0 + 1 else 0)
  by true is = rw is refl
  by false is = rw is refl
one_passed q (x ∷ l) a = by (q x) (q a) refl refl (one_passed q l a) where
  by : (b c : Bool) → q x ≡ b → q a ≡ c
      → length (filter q (l ++ a ∷ [])) ≡ (if q a then length (filter q l) + 1 else length (filter q l))
      → length (filter q (x ∷ l ++ a ∷ [])) ≡ (if q a then length (filter q (x ∷ l)) + 1 else length (filter q (x ∷ l)))
  by true true is so ih =
      let next : suc (length (filter q l) + 1) ≡ suc (length (filter q l)) + 1 = omega arith in
      rw (is, so) (ap suc (rw so at ih) ∙ next)
  by true false is so ih = rw (is, so) (ap suc (rw so at ih))
  by false true is so ih = rw (is, so) (rw so at ih)
  by false false is so ih = rw (is, so) (rw so at ih)

pub fewer : (q : Avp → Bool) (l : List Avp) → length (filter q l) ≤ length l
fewer q [] = omega arith
fewer q (x ∷ l) = by (q x) refl (fewer q l) where
  by : (b : Bool) → q x ≡ b → length (filter q l) ≤ length l → length (filter q (x ∷ l)) ≤ suc (length l)
  by true is ih = rw is (omega (arith, ih))
  by false is ih = rw is (omega (arith, ih))

-- an AVP whose number isn't wanted
pub unwanted : (p : Option Path) (avps : List AvpDef) (l : List Avp) (a : Avp) (numbers : List ((ℕ × Option ℕ) × ℕ))
    → is_wanted p (definition avps a) ≡ false → AreNumbered p avps l numbers → AreNumbered p avps (l ++ a ∷ []) numbers
unwanted p avps l a numbers not h b wanted = by (is_alike a b) refl where
  by : (c : Bool) → is_alike a b ≡ c → times_counted numbers b.code b.vendor ≡ length (filter (λ x. is_alike x b) (l ++ a ∷ []))
  by false is = h b wanted ∙ sym (one_passed (λ x. is_alike x b) l a ∙ rw is refl)
  by true is =
      let (codes_are, vendors_are) = and_parts (nat_eq a.code b.code) (option_eq nat_eq a.vendor b.vendor) is in
      let code : a.code ≡ b.code = eqb-true a.code b.code codes_are in
      let vendor : a.vendor ≡ b.vendor = same_vendor a.vendor b.vendor vendors_are in
      absurd (true≢false (sym (rw (← code, ← vendor) at wanted) ∙ not))

-- one whose number is
pub wanted_one : (p : Option Path) (avps : List AvpDef) (l : List Avp) (a : Avp) (old new : List ((ℕ × Option ℕ) × ℕ)) (nth : ℕ)
    → nth ≡ times_counted old a.code a.vendor + 1
    → ((c : ℕ) (v : Option ℕ) → times_counted new c v ≡ (if is_key_of a.code a.vendor (c, v) then nth else times_counted old c v))
    → AreNumbered p avps l old → AreNumbered p avps (l ++ a ∷ []) new
wanted_one p avps l a old new nth next counted h b wanted = by (is_alike a b) refl where
  by : (c : Bool) → is_alike a b ≡ c → times_counted new b.code b.vendor ≡ length (filter (λ x. is_alike x b) (l ++ a ∷ []))
  by false is =
      let now : times_counted new b.code b.vendor ≡ times_counted old b.code b.vendor = counted b.code b.vendor ∙ rw is refl in
      now ∙ h b wanted ∙ sym (one_passed (λ x. is_alike x b) l a ∙ rw is refl)
  by true is =
      let (codes_are, vendors_are) = and_parts (nat_eq a.code b.code) (option_eq nat_eq a.vendor b.vendor) is in
      let code : a.code ≡ b.code = eqb-true a.code b.code codes_are in
      let vendor : a.vendor ≡ b.vendor = same_vendor a.vendor b.vendor vendors_are in
      let now : times_counted new b.code b.vendor ≡ nth = counted b.code b.vendor ∙ rw is refl in
      let before : times_counted old a.code a.vendor ≡ length (filter (λ x. is_alike x b) l) = rw (code, vendor) (h b wanted) in
      now ∙ next ∙ ap (λ n. n + 1) before ∙ sym (one_passed (λ x. is_alike x b) l a ∙ rw is refl)

-- the numbers are no more than the AVPs
pub number_fits : (p : Option Path) (avps : List AvpDef) (l : List Avp) (a : Avp) (old : List ((ℕ × Option ℕ) × ℕ)) (most : ℕ)
    → length l + 1 < most → is_wanted p (definition avps a) ≡ true → AreNumbered p avps l old
    → times_counted old a.code a.vendor + 1 < most
number_fits p avps l a old most fits wanted h =
    let is = h a wanted in
    let less = fewer (λ b. is_alike b a) l in
    omega (arith, is, less, fits)
