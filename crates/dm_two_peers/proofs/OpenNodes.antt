-- What an open node holds, and the parts of a link that tests tell.
use Rattle.std.proofs.Common.{◌≡◌, ℕ, zero, suc, ◌<◌, Bool, true, false, IsTrue, Some}
use Rattle.std.proofs.Common.{List, [], ◌∷◌, length, slice_get, refl, sym, ap, subst, arith, inl, inr}
use Rattle.std.proofs.lemmas.Bool.{cases_lt, and_parts}
use Rattle.std.proofs.lemmas.Bool.Decides.{nat_tests}
use Rattle.dm_machine.specs.declared.state_name.State.{State}
use Rattle.dm_machine.specs.declared.state_name.State.TheVariants.{ROpen, IOpen}
use Rattle.dm_machine.specs.Node.{is_held_in, is_count_of}
use Rattle.dm_two_peers.specs.Machine.{Conn, conn, Role, Initiated, Accepted, Node, node_at, held_as, is_shaped}
use Rattle.dm_two_peers.specs.Machine.{is_same_role, is_open, Tie, Unheld, tie_of, is_tie_held}
use Rattle.dm_two_peers.specs.Links.{Side, A, B, opens, LinkPhase, LinkPending, LinkUp, LinkCancelled, End, Fresh, Open, Shut}
use Rattle.dm_two_peers.specs.Links.{Mark, NoMark, Coming, Delivered, Link}
use Rattle.dm_two_peers.specs.Facts.{is_up, is_pending, is_open_end, is_coming}
use Rattle.dm_two_peers.specs.Facts.{AreSound}
use Rattle.dm_two_peers.specs.Agreement.{IsOpenOn}
use Rattle.dm_two_peers.proofs.StandingOthers.{is_open_tie, is_taken, same_bool}

-- an open node holds one connection, in the role of its state
pub record OpensBy (n : Node) (r : Role) (c : ℕ) : Type 0 where
  pub tie : is_open_tie (tie_of n c) ≡ true
  pub role : is_taken (tie_of n c) ≡ is_same_role r Accepted
  pub only : (d : ℕ) → is_tie_held (tie_of n d) ≡ true → c ≡ d

opens_r : (c n : ℕ) → OpensBy (node_at ROpen ((Accepted, conn c) ∷ []) n) Accepted c
opens_r c n = record {
  tie = grind (arith, nat_tests);
  role = grind (arith, nat_tests);
  only = λ d h. grind
      (arith, nat_tests, h);
}

opens_i : (c n : ℕ) → OpensBy (node_at IOpen ((Initiated, conn c) ∷ []) n) Initiated c
opens_i c n = record {
  tie = grind (arith, nat_tests);
  role = grind (arith, nat_tests);
  only = λ d h. grind
      (arith, nat_tests, h);
}

some_is : (x y : Conn) → Some x ≡ Some y → x ≡ y
some_is x y h = cc

opens_at : (s : State) (held : List (Role × Conn)) (n : ℕ) (r : Role) (c : ℕ) → IsTrue (is_held_in s held) →
    IsTrue (is_open s) → held_as r held ≡ Some (conn c) → OpensBy (node_at s held n) r c
opens_at ROpen ((Accepted, x) ∷ []) n Accepted c h o e =
    subst (λ y. OpensBy (node_at ROpen ((Accepted, y) ∷ []) n) Accepted c) (sym (some_is x (conn c) e)) (opens_r c n)
opens_at ROpen ((Accepted, x) ∷ []) n Initiated c h o e = cc
opens_at IOpen ((Initiated, x) ∷ []) n Initiated c h o e =
    subst (λ y. OpensBy (node_at IOpen ((Initiated, y) ∷ []) n) Initiated c) (sym (some_is x (conn c) e))
    (opens_i c n)
opens_at IOpen ((Initiated, x) ∷ []) n Accepted c h o e = cc
opens_at _ _ n r c h o e = cc

pub opens_on : (n : Node) (r : Role) (c : ℕ) → IsTrue (is_shaped n) → IsOpenOn n r c → OpensBy n r c
opens_on n r c h o = opens_at n.state n.held n.count r c
    (and_parts (is_held_in n.state n.held) (is_count_of n.state n.count) h).0 o.is_open o.holds

-- the link of a number
there_below : {X : Type 0} (xs : List X) (c : ℕ) → c < length xs → (x : X) × (slice_get xs c ≡ Some x)
there_below [] c h = absurd (omega (arith, h))
there_below (x ∷ xs) zero h = (x, refl)
there_below (x ∷ xs) (suc c) h = there_below xs c (omega (arith, h))

not_held : (t : Tie) → t ≡ Unheld → is_tie_held t ≡ true → ⊥
not_held t e h = cc (ap is_tie_held e, h)

pub held_there : {M : Type 0} (s : Side) (own other : Node) (links : List (Link M)) (c : ℕ) →
    AreSound s own other links → is_tie_held (tie_of own c) ≡ true → (l : Link M) × (slice_get links c ≡ Some l)
held_there s own other links c good held =
    elim (cases_lt c (length links)) [
      | inl lt ↦ there_below links c lt
      | inr late ↦ absurd (not_held (tie_of own c) (good.own_later c late) held)
    ]

pub open_held : (t : Tie) → is_open_tie t ≡ true → is_tie_held t ≡ true
open_held Unheld h = cc
open_held _ h = refl

pub open_is : (e : End) → is_open_end e ≡ true → e ≡ Open
open_is Open h = refl
open_is Fresh h = cc
open_is Shut h = cc

pub coming_is : (k : Mark) → is_coming k ≡ true → k ≡ Coming
coming_is Coming h = refl
coming_is NoMark h = cc
coming_is Delivered h = cc

pub up_is : (p : LinkPhase) → is_up p ≡ true → p ≡ LinkUp
up_is LinkUp h = refl
up_is LinkPending h = cc
up_is LinkCancelled h = cc

pub is_up_at : (p : LinkPhase) → p ≡ LinkUp → is_up p ≡ true
is_up_at p h = rw h refl

pub pending_is : (p : LinkPhase) → is_pending p ≡ true → p ≡ LinkPending
pending_is LinkPending h = refl
pending_is LinkUp h = cc
pending_is LinkCancelled h = cc

pub opener_is : (s o : Side) → opens s o ≡ true → o ≡ s
opener_is A A h = refl
opener_is B B h = refl
opener_is A B h = cc
opener_is B A h = cc

pub same_left : (a b : Bool) → same_bool a b ≡ true → b ≡ true → a ≡ true
same_left true b h g = refl
same_left false true h g = cc
same_left false false h g = cc

pub same_right : (a b : Bool) → same_bool a b ≡ true → a ≡ true → b ≡ true
same_right true b h g = h
same_right false b h g = cc

pub is_open_at : (e : End) → e ≡ Open → is_open_end e ≡ true
is_open_at e h = rw h refl
