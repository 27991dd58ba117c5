-- The look-up of hosts where a neighbour was added, went, or was set back.
use Rattle.std.proofs.Common.{◌≡◌, ℕ, Bool, true, false, List, [], ◌∷◌, ◌++◌, length, Option, None, Some, IsSome, if◌then◌else◌, refl, sym, ap, subst, ◌∙◌, inl, inr}
use Rattle.std.proofs.lemmas.Bool.{cases_eq}
use Rattle.dm_base.specs.Before.{lower}
use Rattle.dm_peer.specs.declared.peer.Peer.{Peer}
use Rattle.dm_node.specs.declared.hosts.Hosts.{Hosts}
use Rattle.dm_node.specs.Emptying.{with_set_back, without_peer, all_set_back}
use Rattle.dm_node.specs.Holding.{peer_at, host_of, host_at}
use Rattle.dm_node.specs.Naming.{is_host, noted_number, AreHostsNoted, IsForgotten}
use Rattle.dm_node.proofs.Keyed.{itself, is_that}
use Rattle.dm_node.proofs.Named.{named_same, noted_same}
use Rattle.dm_node.proofs.Places.{grown_here, grown_else, nobody_behind, set_here, set_else, hosts_set}
use Rattle.dm_node.proofs.Rostered.{back_host, each_back}
use Rattle.dm_node.proofs.Basics.{one_some, no_some, two_truths}

-- Who is at one place changes, and what is noted for one host with it: that was the host there, if there was one, and is
-- the one there, if there is one then.
module _ (o n : Hosts) (ps qs : List (Option Peer)) (i : ℕ) (g : List ℕ) (w : Option ℕ) (named : AreHostsNoted o ps)
    (noted : (h : List ℕ) → noted_number n h ≡ if is_host g h then w else noted_number o h)
    (others : (j : ℕ) → (j ≡ i → ⊥) → host_at qs j ≡ host_at ps j) (put : (j : ℕ) → w ≡ Some j → host_at qs j ≡ Some g)
    (here : (h : List ℕ) → host_at qs i ≡ Some h → (g ≡ h) × (w ≡ Some i))
    (was : (h : List ℕ) → host_at ps i ≡ Some h → g ≡ h) (alone : (j : ℕ) → host_at ps j ≡ Some g → j ≡ i) where
  is_it : (h : List ℕ) → g ≡ h → is_host g h ≡ true
  is_it h e = subst (λ l. is_host g l ≡ true) e (itself g)

  has_changed : (h : List ℕ) (j : ℕ) (b : Bool) → is_host g h ≡ b → (if b then w else noted_number o h) ≡ Some j →
      host_at qs j ≡ Some h
  has_changed h j true q e = put j e ∙ ap Some (is_that g h q)
  has_changed h j false q e =
      let before : host_at ps j ≡ Some h = named.has h j e in
      others j (λ s. two_truths (is_host g h) (is_it h (was h (ap (host_at ps) (sym s) ∙ before))) q) ∙ before

  noted_else : (h : List ℕ) (j : ℕ) (b : Bool) → is_host g h ≡ b → (j ≡ i → ⊥) → host_at ps j ≡ Some h →
      (if b then w else noted_number o h) ≡ Some j
  noted_else h j true q un e = absurd (un (alone j (e ∙ ap Some (sym (is_that g h q)))))
  noted_else h j false q un e = named.noted h j e

  noted_changed : (h : List ℕ) (j : ℕ) → host_at qs j ≡ Some h → (if is_host g h then w else noted_number o h) ≡ Some j
  noted_changed h j e =
      elim (cases_eq j i) [
        | inl s ↦
            let now = here h (ap (host_at qs) (sym s) ∙ e) in
            subst (λ b. (if b then w else noted_number o h) ≡ Some j) (sym (is_it h now.0)) (now.1 ∙ ap Some (sym s))
        | inr un ↦ noted_else h j (is_host g h) refl un (sym (others j un) ∙ e)
      ]

  named_changed : AreHostsNoted n qs
  named_changed = record {
    has = λ h j e. has_changed h j (is_host g h) refl (sym (noted h) ∙ e);
    noted = λ h j e. noted h ∙ noted_changed h j e;
  }

-- one more, whose host nobody has
pub named_put : (o n : Hosts) (ps : List (Option Peer)) (y : Peer) → AreHostsNoted o ps →
    ((j : ℕ) → host_at ps j ≡ Some (lower y.config.peer) → ⊥) → ((h : List ℕ) →
    noted_number n h ≡ if is_host (lower y.config.peer) h then Some (length ps) else noted_number o h) →
    AreHostsNoted n (ps ++ Some y ∷ [])
named_put o n ps y named unknown noted =
    let qs = ps ++ Some y ∷ [] in
    let g = lower y.config.peer in
    let last : host_at qs (length ps) ≡ Some g = ap host_of (grown_here ps (Some y)) in
    named_changed o n ps qs (length ps) g (Some (length ps)) named noted
    (λ j un. ap host_of (grown_else ps (Some y) j un))
    (λ j is. ap (host_at qs) (sym (one_some (length ps) j is)) ∙ last)
    (λ h is. (one_some g h (sym last ∙ is), refl))
    (λ h is. no_some h (sym (ap host_of (nobody_behind ps)) ∙ is))
    (λ j is. absurd (unknown j is))

-- nobody any more where somebody was
pub named_without : (o n : Hosts) (ps qs : List (Option Peer)) (i : ℕ) (gone : Option Peer) → qs ≡ without_peer ps i →
    peer_at ps i ≡ gone → IsForgotten gone o n → AreHostsNoted o ps → AreHostsNoted n qs
named_without o n ps qs i None is at same named =
    subst (AreHostsNoted n) (sym is)
    (noted_same o n (without_peer ps i) same (named_same o ps (without_peer ps i) (hosts_set ps i None (sym (ap host_of at))) named))
named_without o n ps qs i (Some p) is at noted named =
    let g = lower p.config.peer in
    let was : host_at ps i ≡ Some g = ap host_of at in
    subst (AreHostsNoted n) (sym is)
    (named_changed o n ps (without_peer ps i) i g None named noted (λ j un. ap host_of (set_else ps i j None un))
    (λ j is. no_some j is)
    (λ h is. no_some h (sym (ap host_of (set_here ps i None (subst IsSome (sym at) refl))) ∙ is))
    (λ h is. one_some g h (sym was ∙ is))
    (λ j is. one_some j i (sym (named.noted g j is) ∙ named.noted g i was)))

-- who was set back has the host that it had
pub back_hosts : (ps qs : List (Option Peer)) (i : ℕ) → qs ≡ with_set_back ps i →
    (j : ℕ) → host_at qs j ≡ host_at ps j
back_hosts ps qs i is j = ap (λ l. host_at l j) is ∙ hosts_set ps i _ (back_host (peer_at ps i)) j

pub all_back_hosts : (ps qs : List (Option Peer)) → qs ≡ all_set_back ps → (j : ℕ) → host_at qs j ≡ host_at ps j
all_back_hosts ps qs is j = ap (λ l. host_at l j) is ∙ ap host_of (each_back ps j) ∙ back_host (peer_at ps j)
