-- The tests of `Flaws` decide the facts of `Columns`.
use Rattle.std.proofs.Common.{◌≡◌, ◌≢◌, ◌<◌, ◌≤◌, ◌⊎◌, inl, inr, ℕ, Bool, true, false, nat_eq, nat_lt, nat_le, List, [], ◌∷◌, ◌++◌, length, take, drop, refl, sym, subst, ◌∙◌, ap, arith, eqb-true}
use Rattle.std.specs.Prelude.{codes, bytes_eq, if◌then◌else◌}
use Rattle.std.specs.Bool.{Decides}
use Rattle.std.specs.List.{All, list_all}
use Rattle.std.specs.Str.{IsUtf8, is_utf8}
use Rattle.std.proofs.lemmas.Bool.{leb-true, le-leb, eqb-false, false≢true}
use Rattle.std.proofs.lemmas.Bool.Decides.{Decides-and, Decides-or, Decides-like, Decides-by_and, Decides-ltb, not_from_Decides}
use Rattle.std.proofs.lemmas.List.{take-append-drop}
use Rattle.std.proofs.lemmas.Slice.Eq.{bytes_eq-Decides}
use Rattle.std.proofs.lemmas.Str.{is_utf8-from_IsUtf8, IsUtf8-from_is_utf8}
use Rattle.std.proofs.Math.Seq.{take-append_seam, drop-append_seam}
use Rattle.dm_value.specs.Columns.{IsVisibleOctet, HasUriForm, family}
use Rattle.dm_value.specs.Flaws.{is_visible, is_visible_text, is_under, is_uri, has_its_size}

Decides-le : (a b : ℕ) → Decides (nat_le a b) (a ≤ b)
Decides-le a b = (leb-true a b, le-leb a b)

pub Decides-utf8 : (s : List ℕ) → Decides (is_utf8 s) (IsUtf8 s)
Decides-utf8 s = (IsUtf8-from_is_utf8 s, is_utf8-from_IsUtf8 s)

pub Decides-visible : (octet : ℕ) → Decides (is_visible octet) (IsVisibleOctet octet)
Decides-visible octet =
    Decides-and (nat_le 0x21 octet) (nat_le octet 0x7e) (Decides-le 0x21 octet) (Decides-le octet 0x7e)

pub Decides-all_visible : (s : List ℕ) → Decides (list_all is_visible s) (All IsVisibleOctet s)
Decides-all_visible s = Decides-by_and is_visible IsVisibleOctet (list_all is_visible) Decides-visible refl (λ _ _. refl) s

some_from_length : (s : List ℕ) → 0 < length s → s ≢ []
some_from_length s h e = let n = ap length e in omega arith

length_from_some : (s : List ℕ) → s ≢ [] → 0 < length s
length_from_some [] h = absurd (h refl)
length_from_some (x ∷ s) h = omega arith

pub Decides-visible_text : (s : List ℕ) → Decides (is_visible_text s) ((s ≢ []) × All IsVisibleOctet s)
Decides-visible_text s =
    Decides-and (nat_lt 0 (length s)) (list_all is_visible s)
    (Decides-like (nat_lt 0 (length s)) (some_from_length s) (length_from_some s) (Decides-ltb 0 (length s)))
    (Decides-all_visible s)

-- octets under the scheme
abbrev IsUnder : List ℕ → List ℕ → Type 0
IsUnder scheme s = (rest : List ℕ) × (s ≡ scheme ++ rest) × (rest ≢ []) × All IsVisibleOctet rest

behind : (r t : List ℕ) → r ≡ t → r ≢ [] → All IsVisibleOctet r → (t ≢ []) × All IsVisibleOctet t
behind r t e some all = (λ f. some (e ∙ f), subst (All IsVisibleOctet) e all)

Decides-under : (scheme s : List ℕ) → Decides (is_under scheme s) (IsUnder scheme s)
Decides-under scheme s =
    let front = take (length scheme) s in
    let rest = drop (length scheme) s in
    Decides-like (is_under scheme s)
    (λ p. (rest, sym (take-append-drop (length scheme) s) ∙ ap (λ x. x ++ rest) p.0, p.1.0, p.1.1))
    (λ p. (
      ap (take (length scheme)) p.1 ∙ take-append_seam scheme p.0,
      behind p.0 rest (sym (ap (drop (length scheme)) p.1 ∙ drop-append_seam scheme p.0)) p.2 p.3,
    ))
    (Decides-and (bytes_eq front scheme) (is_visible_text rest) (bytes_eq-Decides front scheme)
    (Decides-visible_text rest))

pub Decides-uri : (s : List ℕ) → Decides (is_uri s) (HasUriForm s)
Decides-uri s =
    let one = codes "aaa://" in
    let two = codes "aaas://" in
    Decides-like (is_uri s)
    (λ p. elim p [ inl u ↦ (u.0, inl u.1, u.2, u.3) | inr u ↦ (u.0, inr u.1, u.2, u.3) ])
    (λ p. elim p.1 [ inl e ↦ inl (p.0, e, p.2, p.3) | inr e ↦ inr (p.0, e, p.2, p.3) ])
    (Decides-or (is_under one s) (is_under two s) (Decides-under one s) (Decides-under two s))

-- an address of family f in n octets, family and all, has another size than its family's
abbrev pub IsOddSize : ℕ → ℕ → Type 0
IsOddSize f n = ((f ≡ 1) × (n ≢ 6)) ⊎ ((f ≡ 2) × (n ≢ 18))

-- a test that fails just where V holds
abbrev pub Refutes : Bool → Type 0 → Type 0
Refutes r V = (r ≡ true → V → ⊥) × (r ≡ false → V)

pub Refutes-from_Decides : {P : Type 0} (r : Bool) → Decides r P → Refutes r (P → ⊥)
Refutes-from_Decides r d = (λ e h. h (d.0 e), λ e. not_from_Decides r d e)

yes : {V : Type 0} → (V → ⊥) → Refutes true V
yes h = (λ _. h, λ e. absurd (false≢true (sym e)))

no : {V : Type 0} → V → Refutes false V
no v = (λ e. absurd (false≢true e), λ _. v)

size_by : (f n : ℕ) (b c d e : Bool) → nat_eq f 1 ≡ b → nat_eq f 2 ≡ c → nat_eq n 6 ≡ d → nat_eq n 18 ≡ e →
    Refutes (if b then d else (if c then e else true)) (IsOddSize f n)
size_by f n true c true e fb fc nd ne =
    yes (λ h. elim h [ inl w ↦ w.1 (eqb-true n 6 nd) | inr w ↦ omega (arith, w.0, eqb-true f 1 fb) ])
size_by f n true c false e fb fc nd ne = no (inl (eqb-true f 1 fb, eqb-false n 6 nd))
size_by f n false true d true fb fc nd ne =
    yes (λ h. elim h [ inl w ↦ eqb-false f 1 fb w.0 | inr w ↦ w.1 (eqb-true n 18 ne) ])
size_by f n false true d false fb fc nd ne = no (inr (eqb-true f 2 fc, eqb-false n 18 ne))
size_by f n false false d e fb fc nd ne =
    yes (λ h. elim h [ inl w ↦ eqb-false f 1 fb w.0 | inr w ↦ eqb-false f 2 fc w.0 ])

pub Refutes-size : (s : List ℕ) → Refutes (has_its_size s) (IsOddSize (family s) (length s))
Refutes-size s = size_by (family s) (length s) _ _ _ _ refl refl refl refl
