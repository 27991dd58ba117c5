-- What keeps a roster.
use Rattle.std.proofs.Common.{◌≡◌, ℕ, zero, suc, true, false, List, [], ◌∷◌, ◌++◌, option_map, Option, None, Some, IfSome, refl, sym, ap, subst, ◌∙◌, inl, inr}
use Rattle.std.proofs.Math.ListN.{set}
use Rattle.std.proofs.lemmas.Bool.{cases_eq}
use Rattle.dm_machine.specs.declared.connection.Conn.{Conn}
use Rattle.dm_peer.specs.declared.peer.Peer.{Peer}
use Rattle.dm_peer.specs.Kept.{IsKept}
use Rattle.dm_peer.specs.Settled.{FreshIsSettled}
use Rattle.dm_peer.specs.Spelled.{FreshIsFitting}
use Rattle.dm_node.specs.Emptying.{set_back, all_set_back}
use Rattle.dm_node.specs.Holding.{peer_at, holds_it, holds_at, host_of, host_at, AreApart, AreUnlike}
use Rattle.dm_node.specs.NodeHeld.{AreKept}
use Rattle.dm_node.specs.Owning.{has, IsResettled}
use Rattle.dm_node.specs.declared.owners.Holding.{Holding}
use Rattle.dm_node.proofs.Basics.{one_some, no_some, two_truths}
use Rattle.dm_node.proofs.Places.{set_cases, set_or_none, set_else, grown_cases}

-- fewer are held
pub apart_less : (ps qs : List (Option Peer)) →
    ((j : ℕ) (c : Conn) → holds_at qs c j ≡ true → holds_at ps c j ≡ true) → AreApart ps → AreApart qs
apart_less ps qs less apart = record { one = λ i j c h g. apart.one i j c (less i c h) (less j c g) }

-- fewer are named
pub unlike_less : (ps qs : List (Option Peer)) →
    ((j : ℕ) (h : List ℕ) → host_at qs j ≡ Some h → host_at ps j ≡ Some h) → AreUnlike ps → AreUnlike qs
unlike_less ps qs less unlike = record { one = λ i j h p q. unlike.one i j h (less i h p) (less j h q) }

-- who was set back holds nothing, and has the host that it had
pub back_holds : (c : Conn) (o : Option Peer) → holds_it c (option_map set_back o) ≡ false
back_holds c None = refl
back_holds c (Some p) = refl

pub back_host : (o : Option Peer) → host_of (option_map set_back o) ≡ host_of o
back_host None = refl
back_host (Some p) = refl

-- a place where nobody holds anything is put in
pub less_set : (ps : List (Option Peer)) (i : ℕ) (y : Option Peer) → ((c : Conn) → holds_it c y ≡ false) →
    (j : ℕ) (c : Conn) → holds_at (set ps i y) c j ≡ true → holds_at ps c j ≡ true
less_set ps i y free j c =
    set_cases (λ o. holds_it c o ≡ true → holds_at ps c j ≡ true) ps i j y
    (λ s held. absurd (two_truths (holds_it c y) held (free c))) (λ held. held)

-- a place whose host is the same, or none, is put in
pub host_set : (ps : List (Option Peer)) (i : ℕ) (y : Option Peer) →
    ((h : List ℕ) → host_of y ≡ Some h → host_at ps i ≡ Some h) →
    (j : ℕ) (h : List ℕ) → host_at (set ps i y) j ≡ Some h → host_at ps j ≡ Some h
host_set ps i y fewer j h =
    set_cases (λ o. host_of o ≡ Some h → host_at ps j ≡ Some h) ps i j y
    (λ s e. ap (host_at ps) s ∙ fewer h e) (λ e. e)

-- nobody holds anything there then
pub set_free : (ps : List (Option Peer)) (i : ℕ) (y : Option Peer) (c : Conn) → holds_it c y ≡ false →
    holds_at (set ps i y) c i ≡ false
set_free ps i y c free =
    elim (set_or_none ps i y) [ inl here ↦ ap (holds_it c) here ∙ free | inr none ↦ ap (holds_it c) none.0 ]

pub none_free : (c : Conn) → holds_it c None ≡ false
none_free c = refl

pub none_named : (ps : List (Option Peer)) (i : ℕ) (h : List ℕ) → host_of None ≡ Some h → host_at ps i ≡ Some h
none_named ps i h e = cc

pub back_named : (ps : List (Option Peer)) (i : ℕ) (h : List ℕ) →
    host_of (option_map set_back (peer_at ps i)) ≡ Some h → host_at ps i ≡ Some h
back_named ps i h e = sym (back_host (peer_at ps i)) ∙ e

pub apart_set : (ps qs : List (Option Peer)) (i : ℕ) (y : Option Peer) → qs ≡ set ps i y →
    ((c : Conn) → holds_it c y ≡ false) → AreApart ps → AreApart qs
apart_set ps qs i y is free apart = subst AreApart (sym is) (apart_less ps (set ps i y) (less_set ps i y free) apart)

pub unlike_set : (ps qs : List (Option Peer)) (i : ℕ) (y : Option Peer) → qs ≡ set ps i y →
    ((h : List ℕ) → host_of y ≡ Some h → host_at ps i ≡ Some h) → AreUnlike ps → AreUnlike qs
unlike_set ps qs i y is fewer unlike =
    subst AreUnlike (sym is) (unlike_less ps (set ps i y) (host_set ps i y fewer) unlike)

pub resettled : (ps qs : List (Option Peer)) (i : ℕ) (y : Option Peer) (before : Holding) → qs ≡ set ps i y →
    ((c : Conn) → has before c ≡ holds_at ps c i) → IsResettled ps qs i before
resettled ps qs i y before is held =
    record { held = held; others = λ j un. ap (λ l. peer_at l j) is ∙ set_else ps i j y un }

-- each one was set back
pub each_back : (ps : List (Option Peer)) (j : ℕ) → peer_at (all_set_back ps) j ≡ option_map set_back (peer_at ps j)
each_back [] j = refl
each_back (x ∷ xs) zero = refl
each_back (x ∷ xs) (suc j) = each_back xs j

pub all_free : (ps qs : List (Option Peer)) → qs ≡ all_set_back ps → (c : Conn) (i : ℕ) → holds_at qs c i ≡ false
all_free ps qs is c i =
    subst (λ l. holds_at l c i ≡ false) (sym is)
    (subst (λ o. holds_it c o ≡ false) (sym (each_back ps i)) (back_holds c (peer_at ps i)))

pub apart_all : (ps qs : List (Option Peer)) → qs ≡ all_set_back ps → AreApart qs
apart_all ps qs is =
    record { one = λ i j c h g. absurd (two_truths (holds_at qs c i) h (all_free ps qs is c i)) }

pub unlike_all : (ps qs : List (Option Peer)) → qs ≡ all_set_back ps → AreUnlike ps → AreUnlike qs
unlike_all ps qs is unlike =
    subst AreUnlike (sym is) (unlike_less ps (all_set_back ps)
    (λ j h e. sym (back_host (peer_at ps j)) ∙ sym (ap host_of (each_back ps j)) ∙ e) unlike)

-- what holds of each holds of each where one more is put behind them, or one in a place
abbrev pub IsEach : (Peer → Type 0) → List (Option Peer) → Type 0
IsEach P ps = (i : ℕ) (p : Peer) → peer_at ps i ≡ Some p → P p

pub each_grown : (P : Peer → Type 0) (ps : List (Option Peer)) (y : Peer) → P y → IsEach P ps →
    IsEach P (ps ++ Some y ∷ [])
each_grown P ps y here each j =
    grown_cases (λ o. (p : Peer) → o ≡ Some p → P p) ps (Some y) j (λ last p at. subst P (one_some y p at) here) (each j)

pub each_set : (P : Peer → Type 0) (ps : List (Option Peer)) (i : ℕ) (y : Option Peer) →
    ((p : Peer) → y ≡ Some p → P p) → IsEach P ps → IsEach P (set ps i y)
each_set P ps i y here each j = set_cases (λ o. (p : Peer) → o ≡ Some p → P p) ps i j y (λ s. here) (each j)

-- each stays what events make of a new peer
pub kept_set : (ps qs : List (Option Peer)) (i : ℕ) (y : Option Peer) → qs ≡ set ps i y →
    ((p : Peer) → y ≡ Some p → IsKept p) → AreKept ps → AreKept qs
kept_set ps qs i y is here kept = subst AreKept (sym is) (each_set IsKept ps i y here kept)

pub none_kept : (p : Peer) → None ≡ Some p → IsKept p
none_kept p e = no_some p e

pub kept_grown : (ps : List (Option Peer)) (y : Peer) → IsKept y → AreKept ps → AreKept (ps ++ Some y ∷ [])
kept_grown ps y here kept = each_grown IsKept ps y here kept

pub kept_told : (ps qs : List (Option Peer)) (i : ℕ) (q : Peer) → peer_at qs i ≡ Some q → IsKept q →
    ((j : ℕ) → (j ≡ i → ⊥) → peer_at qs j ≡ peer_at ps j) → AreKept ps → AreKept qs
kept_told ps qs i q here is others kept j p at =
    elim (cases_eq j i) [
      | inl s ↦ subst (λ o. IfSome o IsKept) (sym here ∙ subst (λ n. peer_at qs n ≡ Some p) s at) is
      | inr un ↦ kept j p (sym (others j un) ∙ at)
    ]

-- one that was set back does too
pub back_kept : FreshIsSettled → FreshIsFitting → (o : Option Peer) (p : Peer) → ((q : Peer) → o ≡ Some q → IsKept q) →
    option_map set_back o ≡ Some p → IsKept p
back_kept settled fitting None p kept at = absurd (cc at)
back_kept settled fitting (Some q) p kept at =
    subst (λ o. IfSome o IsKept) at
    (record {
      settled = settled q.config q.standing.next;
      fitting = fitting q.config q.standing.next (kept q refl).fitting.next;
    })

-- each one that was set back does
pub kept_all : FreshIsSettled → FreshIsFitting → (ps qs : List (Option Peer)) → qs ≡ all_set_back ps → AreKept ps →
    AreKept qs
kept_all settled fitting ps qs is kept j p at =
    back_kept settled fitting (peer_at ps j) p (kept j)
    (sym (each_back ps j) ∙ sym (ap (λ l. peer_at l j) is) ∙ at)
