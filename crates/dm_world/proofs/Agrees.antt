-- What is looked up tells whether two peers agree.
use Rattle.std.proofs.Common.{◌≡◌, ℕ, ◌==◌, Bool, true, false, ◌&&◌, if◌then◌else◌, Option, Some, None, List}
use Rattle.std.proofs.Common.{slice_get, refl, sym, ap, subst, ◌∙◌, inl, inr, arith}
use Rattle.std.specs.Prelude.{◌⊎◌, ◌↔◌, IsTrue, IfSome}
use Rattle.std.specs.Option.{IfNone, option_or}
use Rattle.std.proofs.lemmas.Bool.Decides.{nat_tests}
use Rattle.dm_two_peers.specs.Machine.{Conn, conn, Role, Initiated, Accepted, Node, held_as, is_same_role, is_open}
use Rattle.dm_two_peers.specs.Links.{Side, A, B, Coming, NoMark, Delivered, Mark, Link}
use Rattle.dm_two_peers.specs.Peers.{Peers}
use Rattle.dm_two_peers.specs.Worlds.{World}
use Rattle.dm_two_peers.specs.Happens.{own_view}
use Rattle.dm_two_peers.specs.Agreement.{IsOpenOn, HasComingDisconnect, AreOpposite, AreParting, Agreed}
use Rattle.dm_world.specs.Agreeing.{open_in_role, is_coming_at, are_one, are_agreed, shared, agrees}
use Rattle.dm_world.specs.Agreeing.{AreBothOpenOn, open_on_both}

same_number : (a b : ℕ) → (a == b) ≡ true → a ≡ b
same_number a b h = grind (arith, nat_tests)

other_number : (a b : ℕ) → (a == b) ≡ false → a ≡ b → ⊥
other_number a b h e = grind (arith, nat_tests)

number_same : (a b : ℕ) → a ≡ b → (a == b) ≡ true
number_same a b h = grind (arith, nat_tests)

number_other : (a b : ℕ) → (a ≡ b → ⊥) → (a == b) ≡ false
number_other a b h = grind (arith, nat_tests, h)

both_true : (a b : Bool) → (a && b) ≡ true → (a ≡ true) × (b ≡ true)
both_true true b h = (refl, h)
both_true false b h = cc

and_true : (a b : Bool) → a ≡ true → b ≡ true → (a && b) ≡ true
and_true true b h g = g
and_true false b h g = cc

if_some : (b : Bool) (o : Option Conn) (x : Conn) → (if b then o else None) ≡ Some x → IsTrue b × (o ≡ Some x)
if_some true o x h = (refl, h)
if_some false o x h = cc

some_if : (b : Bool) (o : Option Conn) (x : Conn) → IsTrue b → o ≡ Some x → (if b then o else None) ≡ Some x
some_if true o x t h = h
some_if false o x t h = cc

pub is_open_on : (n : Node) (r : Role) (c : ℕ) → open_in_role r n ≡ Some (conn c) → IsOpenOn n r c
is_open_on n r c h =
    let parts = if_some (is_open n.state) (held_as r n.held) (conn c) h in record { is_open = parts.0; holds = parts.1 }

pub open_on_is : (n : Node) (r : Role) (c : ℕ) → IsOpenOn n r c → open_in_role r n ≡ Some (conn c)
open_on_is n r c h = some_if (is_open n.state) (held_as r n.held) (conn c) h.is_open h.holds

-- a disconnect is coming
mark_coming : (m : Mark) → elim m [ Coming ↦ true | _ ↦ false ] ≡ true → m ≡ Coming
mark_coming NoMark h = cc
mark_coming Coming h = refl
mark_coming Delivered h = cc

coming_is : {P : Type 0} (w : World P (List ℕ)) (c : ℕ) (s : Side) (o : Option (Link (List ℕ))) →
    slice_get w.links c ≡ o → is_coming_at s o ≡ true → HasComingDisconnect w c s
coming_is w c s None at h = cc
coming_is w c s (Some l) at h = record { link = l; there = at; coming = mark_coming (own_view s l).incoming.mark h }

is_coming : {P : Type 0} (w : World P (List ℕ)) (c : ℕ) (s : Side) → HasComingDisconnect w c s →
    is_coming_at s (slice_get w.links c) ≡ true
is_coming w c s h =
    rw h.there (ap (λ (m : Mark). elim m [ Coming ↦ true | _ ↦ false ]) h.coming)

-- one connection of a side
one_from : (x y : Option Conn) → ((c d : ℕ) → x ≡ Some (conn c) → y ≡ Some (conn d) → c ≡ d) → are_one x y ≡ true
one_from (Some c) (Some d) h = number_same c.0 d.0 (h c.0 d.0 refl refl)
one_from None y h = refl
one_from (Some c) None h = refl

some_number : (x : Conn) (c : ℕ) → Some x ≡ Some (conn c) → x.0 ≡ c
some_number x c h = cc

one_to : (x y : Option Conn) (c d : ℕ) → are_one x y ≡ true → x ≡ Some (conn c) → y ≡ Some (conn d) → c ≡ d
one_to (Some x) (Some y) c d t h g = sym (some_number x c h) ∙ same_number x.0 y.0 t ∙ some_number y d g
one_to None y c d t h g = cc
one_to (Some x) None c d t h g = cc

-- two connections of two sides
abbrev Fit : {P : Type 0} → Bool → World P (List ℕ) → ℕ → ℕ → Type 0
Fit opposite w c d = ((c ≡ d) × (opposite ≡ true)) ⊎ AreParting w c d

pair_to : {P : Type 0} (opposite same : Bool) (w : World P (List ℕ)) (c d : ℕ) → (c == d) ≡ same →
    (if same then opposite else is_coming_at A (slice_get w.links c) && is_coming_at B (slice_get w.links d)) ≡ true →
    Fit opposite w c d
pair_to opposite true w c d e t = inl (same_number c d e, t)
pair_to opposite false w c d e t =
    let parts = both_true (is_coming_at A (slice_get w.links c)) (is_coming_at B (slice_get w.links d)) t in
    inr (record {
      apart = other_number c d e;
      to_a = coming_is w c A (slice_get w.links c) refl parts.0;
      to_b = coming_is w d B (slice_get w.links d) refl parts.1;
    })

agreed_to : {P : Type 0} (opposite : Bool) (w : World P (List ℕ)) (x y : Option Conn) (c d : ℕ) →
    are_agreed opposite w.links x y ≡ true → x ≡ Some (conn c) → y ≡ Some (conn d) → Fit opposite w c d
agreed_to opposite w (Some x) (Some y) c d t h g =
    let at_x : Fit opposite w x.0 y.0 = pair_to opposite (x.0 == y.0) w x.0 y.0 refl t in
    subst (λ n. Fit opposite w n d) (some_number x c h) (subst (λ n. Fit opposite w x.0 n) (some_number y d g) at_x)
agreed_to opposite w None y c d t h g = cc
agreed_to opposite w (Some x) None c d t h g = cc

pair_from : {P : Type 0} (opposite same : Bool) (w : World P (List ℕ)) (c d : ℕ) → (c == d) ≡ same →
    Fit opposite w c d →
    (if same then opposite else is_coming_at A (slice_get w.links c) && is_coming_at B (slice_get w.links d)) ≡ true
pair_from opposite true w c d e (inl fit) = fit.1
pair_from opposite true w c d e (inr part) = absurd (part.apart (same_number c d e))
pair_from opposite false w c d e (inl fit) = absurd (other_number c d e fit.0)
pair_from opposite false w c d e (inr part) =
    and_true (is_coming_at A (slice_get w.links c)) (is_coming_at B (slice_get w.links d)) (is_coming w c A part.to_a)
    (is_coming w d B part.to_b)

agreed_from : {P : Type 0} (opposite : Bool) (w : World P (List ℕ)) (x y : Option Conn) →
    ((c d : ℕ) → x ≡ Some (conn c) → y ≡ Some (conn d) → Fit opposite w c d) → are_agreed opposite w.links x y ≡ true
agreed_from opposite w (Some x) (Some y) h = pair_from opposite (x.0 == y.0) w x.0 y.0 refl (h x.0 y.0 refl refl)
agreed_from opposite w None y h = refl
agreed_from opposite w (Some x) None h = refl

same_some : (x : Option Conn) (c d : ℕ) → x ≡ Some (conn c) → x ≡ Some (conn d) → c ≡ d
same_some (Some x) c d h g = sym (some_number x c h) ∙ some_number x d g
same_some None c d h g = cc

-- in opposite roles, or in the same
opposite_fits : {P : Type 0} (w : World P (List ℕ)) (r r' : Role) (c d : ℕ) → is_same_role r r' ≡ false →
    Fit true w c d → AreOpposite r r' c d ⊎ AreParting w c d
opposite_fits w r r' c d e (inl fit) = inl (record { same = fit.0; opposite = e })
opposite_fits w r r' c d e (inr part) = inr part

same_fits : {P : Type 0} (w : World P (List ℕ)) (r r' : Role) (c d : ℕ) → Fit false w c d →
    AreOpposite r r' c d ⊎ AreParting w c d
same_fits w r r' c d (inl fit) = absurd (let e : false ≡ true = fit.1 in cc)
same_fits w r r' c d (inr part) = inr part

fit_opposite : {P : Type 0} (w : World P (List ℕ)) (r r' : Role) (c d : ℕ) → AreOpposite r r' c d ⊎ AreParting w c d →
    Fit true w c d
fit_opposite w r r' c d (inl fit) = inl (fit.same, refl)
fit_opposite w r r' c d (inr part) = inr part

fit_same : {P : Type 0} (w : World P (List ℕ)) (r r' : Role) (c d : ℕ) → is_same_role r r' ≡ true →
    AreOpposite r r' c d ⊎ AreParting w c d → Fit false w c d
fit_same w r r' c d e (inl fit) = let o : is_same_role r r' ≡ false = fit.opposite in cc
fit_same w r r' c d e (inr part) = inr part

-- the six tests
record Tests {P : Type 0} (a b : Node) (w : World P (List ℕ)) : Type 0 where
  one_a : are_one (open_in_role Initiated a) (open_in_role Accepted a) ≡ true
  one_b : are_one (open_in_role Initiated b) (open_in_role Accepted b) ≡ true
  ii : are_agreed false w.links (open_in_role Initiated a) (open_in_role Initiated b) ≡ true
  ia : are_agreed true w.links (open_in_role Initiated a) (open_in_role Accepted b) ≡ true
  ai : are_agreed true w.links (open_in_role Accepted a) (open_in_role Initiated b) ≡ true
  aa : are_agreed false w.links (open_in_role Accepted a) (open_in_role Accepted b) ≡ true

tests_of : (t u v x y z : Bool) → (t && u && v && x && y && z) ≡ true →
    (t ≡ true) × (u ≡ true) × (v ≡ true) × (x ≡ true) × (y ≡ true) × (z ≡ true)
tests_of true true true true true true h = (refl, refl, refl, refl, refl, refl)
tests_of _ _ _ _ _ _ h = cc

of_tests : (t u v x y z : Bool) → t ≡ true → u ≡ true → v ≡ true → x ≡ true → y ≡ true → z ≡ true →
    (t && u && v && x && y && z) ≡ true
of_tests t u v x y z ht hu hv hx hy hz = rw ht (rw hu (rw hv (rw hx (rw hy (rw hz refl)))))

one_side : (n : Node) (r r' : Role) (c d : ℕ) → are_one (open_in_role Initiated n) (open_in_role Accepted n) ≡ true →
    IsOpenOn n r c → IsOpenOn n r' d → c ≡ d
one_side n Initiated Initiated c d t h g = same_some (open_in_role Initiated n) c d (open_on_is n Initiated c h)
    (open_on_is n Initiated d g)
one_side n Accepted Accepted c d t h g = same_some (open_in_role Accepted n) c d (open_on_is n Accepted c h)
    (open_on_is n Accepted d g)
one_side n Initiated Accepted c d t h g = one_to _ _ c d t (open_on_is n Initiated c h) (open_on_is n Accepted d g)
one_side n Accepted Initiated c d t h g =
    sym (one_to _ _ d c t (open_on_is n Initiated d g) (open_on_is n Accepted c h))

both_sides : {P : Type 0} (a b : Node) (w : World P (List ℕ)) (r r' : Role) (c d : ℕ) → Tests a b w → IsOpenOn a r c →
    IsOpenOn b r' d → AreOpposite r r' c d ⊎ AreParting w c d
both_sides a b w Initiated Initiated c d t h g =
    same_fits w Initiated Initiated c d
    (agreed_to false w (open_in_role Initiated a) (open_in_role Initiated b) c d t.ii (open_on_is a Initiated c h)
    (open_on_is b Initiated d g))
both_sides a b w Initiated Accepted c d t h g = opposite_fits w Initiated Accepted c d refl
    (agreed_to true w (open_in_role Initiated a) (open_in_role Accepted b) c d t.ia (open_on_is a Initiated c h)
    (open_on_is b Accepted d g))
both_sides a b w Accepted Initiated c d t h g = opposite_fits w Accepted Initiated c d refl
    (agreed_to true w (open_in_role Accepted a) (open_in_role Initiated b) c d t.ai (open_on_is a Accepted c h)
    (open_on_is b Initiated d g))
both_sides a b w Accepted Accepted c d t h g =
    same_fits w Accepted Accepted c d
    (agreed_to false w (open_in_role Accepted a) (open_in_role Accepted b) c d t.aa (open_on_is a Accepted c h)
    (open_on_is b Accepted d g))

tests_agree : {P : Type 0} (m : Peers P (List ℕ)) (w : World P (List ℕ)) → Tests (m.node_of w.a) (m.node_of w.b) w →
    Agreed m w
tests_agree m w t =
    record {
      one_a = λ r r' c d h g. one_side (m.node_of w.a) r r' c d t.one_a h g;
      one_b = λ r r' c d h g. one_side (m.node_of w.b) r r' c d t.one_b h g;
      both = λ r r' c d h g. both_sides (m.node_of w.a) (m.node_of w.b) w r r' c d t h g;
    }

agree_tests : {P : Type 0} (m : Peers P (List ℕ)) (w : World P (List ℕ)) → Agreed m w →
    Tests (m.node_of w.a) (m.node_of w.b) w
agree_tests m w agreed =
    let a = m.node_of w.a in
    let b = m.node_of w.b in
    record {
      one_a = one_from (open_in_role Initiated a) (open_in_role Accepted a)
          (λ c d h g. agreed.one_a Initiated Accepted c d (is_open_on a Initiated c h) (is_open_on a Accepted d g));
      one_b = one_from (open_in_role Initiated b) (open_in_role Accepted b)
          (λ c d h g. agreed.one_b Initiated Accepted c d (is_open_on b Initiated c h) (is_open_on b Accepted d g));
      ii = agreed_from false w (open_in_role Initiated a) (open_in_role Initiated b)
          (λ c d h g. fit_same w Initiated Initiated c d refl
          (agreed.both Initiated Initiated c d (is_open_on a Initiated c h) (is_open_on b Initiated d g)));
      ia = agreed_from true w (open_in_role Initiated a) (open_in_role Accepted b)
          (λ c d h g. fit_opposite w Initiated Accepted c d
          (agreed.both Initiated Accepted c d (is_open_on a Initiated c h) (is_open_on b Accepted d g)));
      ai = agreed_from true w (open_in_role Accepted a) (open_in_role Initiated b)
          (λ c d h g. fit_opposite w Accepted Initiated c d
          (agreed.both Accepted Initiated c d (is_open_on a Accepted c h) (is_open_on b Initiated d g)));
      aa = agreed_from false w (open_in_role Accepted a) (open_in_role Accepted b)
          (λ c d h g. fit_same w Accepted Accepted c d refl
          (agreed.both Accepted Accepted c d (is_open_on a Accepted c h) (is_open_on b Accepted d g)));
    }

pub agrees_as : {P : Type 0} (m : Peers P (List ℕ)) (w : World P (List ℕ)) →
    IsTrue (agrees (m.node_of w.a) (m.node_of w.b) w.links) ↔ Agreed m w
agrees_as m w =
    let a = m.node_of w.a in
    let b = m.node_of w.b in
    let t = are_one (open_in_role Initiated a) (open_in_role Accepted a) in
    let u = are_one (open_in_role Initiated b) (open_in_role Accepted b) in
    let v = are_agreed false w.links (open_in_role Initiated a) (open_in_role Initiated b) in
    let x = are_agreed true w.links (open_in_role Initiated a) (open_in_role Accepted b) in
    let y = are_agreed true w.links (open_in_role Accepted a) (open_in_role Initiated b) in
    let z = are_agreed false w.links (open_in_role Accepted a) (open_in_role Accepted b) in (
      λ h. let p = tests_of t u v x y z h in
          tests_agree m w (record { one_a = p.0; one_b = p.1; ii = p.2; ia = p.3; ai = p.4; aa = p.5 }),
      λ h. let p = agree_tests m w h in of_tests t u v x y z p.one_a p.one_b p.ii p.ia p.ai p.aa,
    )

-- the connection that both are open on
both_if : (b : Bool) (x y c : Conn) → (x.0 == y.0) ≡ b → (if b then Some x else None) ≡ Some c →
    (Some x ≡ Some c) × (Some y ≡ Some c)
both_if true x y c e h = (h, ap (λ n. Some (conn n)) (sym (same_number x.0 y.0 e)) ∙ h)
both_if false x y c e h = cc

none_if : (b : Bool) (x y : Conn) (c : ℕ) → (x.0 == y.0) ≡ b → (if b then Some x else None) ≡ None →
    Some x ≡ Some (conn c) → Some y ≡ Some (conn c) → ⊥
none_if true x y c e h hx hy = cc
none_if false x y c e h hx hy = other_number x.0 y.0 e (some_number x c hx ∙ sym (some_number y c hy))

both_some : (x y : Option Conn) (c : Conn) → shared x y ≡ Some c → (x ≡ Some c) × (y ≡ Some c)
both_some (Some x) (Some y) c h = both_if (x.0 == y.0) x y c refl h
both_some None y c h = cc
both_some (Some x) None c h = cc

shared_none : (x y : Option Conn) (c : ℕ) → shared x y ≡ None → x ≡ Some (conn c) → y ≡ Some (conn c) → ⊥
shared_none (Some x) (Some y) c h hx hy = none_if (x.0 == y.0) x y c refl h hx hy
shared_none None y c h hx hy = cc
shared_none (Some x) None c h hx hy = cc

first_none : (x y : Option Conn) → option_or x y ≡ None → (x ≡ None) × (y ≡ None)
first_none None y h = (refl, h)
first_none (Some x) y h = cc

first_some : (x y : Option Conn) (c : Conn) → option_or x y ≡ Some c → (x ≡ Some c) ⊎ (y ≡ Some c)
first_some None y c h = inr h
first_some (Some x) y c h = inl h

opens_on : (a b : Node) (r r' : Role) (c : Conn) →
    shared (open_in_role r a) (open_in_role r' b) ≡ Some c → AreBothOpenOn a b c.0
opens_on a b r r' c h =
    let both = both_some (open_in_role r a) (open_in_role r' b) c h in
    record { role_a = r; role_b = r'; open_a = is_open_on a r c.0 both.0; open_b = is_open_on b r' c.0 both.1 }

pub found_open : (a b : Node) (c : Conn) → open_on_both a b ≡ Some c → AreBothOpenOn a b c.0
found_open a b c h =
    elim (first_some
    (option_or (shared (open_in_role Initiated a) (open_in_role Accepted b))
    (shared (open_in_role Accepted a) (open_in_role Initiated b)))
    (option_or (shared (open_in_role Initiated a) (open_in_role Initiated b))
    (shared (open_in_role Accepted a) (open_in_role Accepted b)))
    c h) [
      | inl g ↦
          elim (first_some (shared (open_in_role Initiated a) (open_in_role Accepted b))
          (shared (open_in_role Accepted a) (open_in_role Initiated b)) c g) [
            | inl e ↦ opens_on a b Initiated Accepted c e
            | inr e ↦ opens_on a b Accepted Initiated c e
          ]
      | inr g ↦
          elim (first_some (shared (open_in_role Initiated a) (open_in_role Initiated b))
          (shared (open_in_role Accepted a) (open_in_role Accepted b)) c g) [
            | inl e ↦ opens_on a b Initiated Initiated c e
            | inr e ↦ opens_on a b Accepted Accepted c e
          ]
    ]

none_by_role : (a b : Node) (r r' : Role) (c : ℕ) → open_on_both a b ≡ None → IsOpenOn a r c → IsOpenOn b r' c → ⊥
none_by_role a b Initiated Accepted c h oa ob = shared_none _ _ c (first_none _ _ (first_none _ _ h).0).0
    (open_on_is a Initiated c oa) (open_on_is b Accepted c ob)
none_by_role a b Accepted Initiated c h oa ob = shared_none _ _ c (first_none _ _ (first_none _ _ h).0).1
    (open_on_is a Accepted c oa) (open_on_is b Initiated c ob)
none_by_role a b Initiated Initiated c h oa ob = shared_none _ _ c (first_none _ _ (first_none _ _ h).1).0
    (open_on_is a Initiated c oa) (open_on_is b Initiated c ob)
none_by_role a b Accepted Accepted c h oa ob = shared_none _ _ c (first_none _ _ (first_none _ _ h).1).1
    (open_on_is a Accepted c oa) (open_on_is b Accepted c ob)

pub none_open : (a b : Node) → open_on_both a b ≡ None → (c : ℕ) → AreBothOpenOn a b c → ⊥
none_open a b h c both = none_by_role a b both.role_a both.role_b c h both.open_a both.open_b

pub found_if : (a b : Node) (o : Option Conn) → o ≡ open_on_both a b → IfSome o (λ c. AreBothOpenOn a b c.0)
found_if a b None h = tt
found_if a b (Some c) h = found_open a b c (sym h)

pub none_if_none : (a b : Node) (o : Option Conn) → o ≡ open_on_both a b → IfNone o ((c : ℕ) → AreBothOpenOn a b c → ⊥)
none_if_none a b None h = none_open a b (sym h)
none_if_none a b (Some c) h = tt
