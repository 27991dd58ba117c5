-- What has happened to one neighbour of a node.
use Rattle.std.proofs.Common.{◌≡◌, ℕ, nat_eq, Bool, true, false, List, [], ◌∷◌, length, Option, None, Some, option_map, if◌then◌else◌, refl, sym, ap, subst, ◌∙◌, inl, inr}
use Rattle.std.proofs.lemmas.Bool.{eqb-true, eqb-false}
use Rattle.dm_history.specs.History.{Happened, done_at, declined_at, new_peer, Became, untold, done, declined}
use Rattle.dm_peer.specs.Acts.{Moved, acts}
use Rattle.dm_peer.specs.Steps.{EachEventIsOneStep}
use Rattle.dm_peer.specs.declared.actions.Action.{Action}
use Rattle.dm_peer.specs.declared.config.Config.{Config}
use Rattle.dm_peer.specs.declared.peer.Peer.{Peer}
use Rattle.dm_peer.specs.Events.{PeerEvent}
use Rattle.dm_node.specs.Adding.{with_new}
use Rattle.dm_node.specs.Emptying.{set_back, without_peer, with_set_back}
use Rattle.dm_node.specs.Holding.{peer_at}
use Rattle.dm_node.specs.NodeHistory.{NodeStep, NodeBecame, nobody_yet, added, told, refused_event, unmoved, removed, back, all_back, own_past, HasOwnHistory, EachNeighbourHasItsHistory}
use Rattle.dm_node.specs.Telling.{PeerIsTold}
use Rattle.dm_node.proofs.Basics.{one_some, no_some}
use Rattle.dm_node.proofs.Places.{grown_here, grown_else, set_cases, set_else, set_or_none}
use Rattle.dm_node.proofs.Rostered.{each_back}
use Rattle.dm_node.proofs.Taking.{config_kept}

-- a new peer has no past
new_has_none : (p : Peer) (c : Config) (n : ℕ) → p ≡ new_peer c n → HasOwnHistory [] p
new_has_none p c n is =
    subst (HasOwnHistory []) (sym is) (record { next = n; became = untold })

added_here : (ps : List (Option Peer)) (c : Config) (i : ℕ) (p : Peer) → i ≡ length ps →
    peer_at (with_new ps c) i ≡ Some p → HasOwnHistory [] p
added_here ps c i p here at =
    let y = new_peer c c.first_id in
    new_has_none p c c.first_id (one_some p y (sym at ∙ ap (peer_at (with_new ps c)) here ∙ grown_here ps (Some y)))

added_else : (ps : List (Option Peer)) (c : Config) (i : ℕ) (p : Peer) → (i ≡ length ps → ⊥) →
    peer_at (with_new ps c) i ≡ Some p → peer_at ps i ≡ Some p
added_else ps c i p un at = sym (grown_else ps (Some (new_peer c c.first_id)) i un) ∙ at

-- one event more of a neighbour
one_more : EachEventIsOneStep → (p q : Peer) (e : PeerEvent) (actions : List Action) (own : List Happened) →
    HasOwnHistory own p → acts p e ≡ Moved actions q → HasOwnHistory (done_at e actions ∷ own) q
one_more step p q e actions own had acted = record {
  next = had.next;
  became = subst (λ c. Became (new_peer c had.next) (done_at e actions ∷ own) q)
      (sym (config_kept step p q e actions acted)) (done own p e actions q had.became acted);
}

all_back_here : (p : Peer) (o : Option Peer) → option_map set_back o ≡ Some p → HasOwnHistory [] p
all_back_here p None at = no_some p at
all_back_here p (Some q) at = new_has_none p q.config q.standing.next (one_some p (set_back q) (sym at))

set_back_here : (ps : List (Option Peer)) (i : ℕ) (p : Peer) → peer_at (with_set_back ps i) i ≡ Some p →
    HasOwnHistory [] p
set_back_here ps i p at =
    elim (set_or_none ps i (option_map set_back (peer_at ps i))) [
      | inl is ↦ all_back_here p (peer_at ps i) (sym is ∙ at)
      | inr none ↦ no_some p (sym none.0 ∙ at)
    ]

-- each of these neighbours has its own history
abbrev Each : List NodeStep → List (Option Peer) → Type 0
Each past ps = (i : ℕ) (p : Peer) → peer_at ps i ≡ Some p → HasOwnHistory (own_past i past) p

module _ (past : List NodeStep) (ps : List (Option Peer)) (each : Each past ps) where
  added_history : (c : Config) (i : ℕ) (p : Peer) (b : Bool) → nat_eq i (length ps) ≡ b →
      peer_at (with_new ps c) i ≡ Some p → HasOwnHistory (if b then [] else own_past i past) p
  added_history c i p true q at = added_here ps c i p (eqb-true i (length ps) q) at
  added_history c i p false q at = each i p (added_else ps c i p (eqb-false i (length ps) q) at)

  told_history : EachEventIsOneStep → (qs : List (Option Peer)) (j : ℕ) (e : PeerEvent) (actions : List Action)
      (i : ℕ) (p : Peer) (b : Bool) → nat_eq i j ≡ b → PeerIsTold ps qs j e actions → peer_at qs i ≡ Some p →
      HasOwnHistory (if b then done_at e actions ∷ own_past i past else own_past i past) p
  told_history step qs j e actions i p true q tells at =
      let here : i ≡ j = eqb-true i j q in
      let is : tells.after ≡ p = one_some tells.after p (sym tells.is ∙ ap (peer_at qs) (sym here) ∙ at) in
      subst (HasOwnHistory (done_at e actions ∷ own_past i past)) is
      (one_more step tells.before tells.after e actions (own_past i past)
      (each i tells.before (ap (peer_at ps) here ∙ tells.was)) tells.acts)
  told_history step qs j e actions i p false q tells at =
      each i p (sym (tells.others i (eqb-false i j q)) ∙ at)

  refused_history : (e : PeerEvent) (i : ℕ) (p : Peer) (b : Bool) → peer_at ps i ≡ Some p →
      HasOwnHistory (if b then declined_at e ∷ own_past i past else own_past i past) p
  refused_history e i p true at =
      let had : HasOwnHistory (own_past i past) p = each i p at in
      record { next = had.next; became = declined (own_past i past) p e had.became }
  refused_history e i p false at = each i p at

  removed_history : (j i : ℕ) (p : Peer) → peer_at (without_peer ps j) i ≡ Some p → HasOwnHistory (own_past i past) p
  removed_history j i p =
      set_cases (λ o. o ≡ Some p → HasOwnHistory (own_past i past) p) ps j i None (λ s none. no_some p none) (each i p)

  back_history : (j i : ℕ) (p : Peer) (b : Bool) → nat_eq i j ≡ b → peer_at (with_set_back ps j) i ≡ Some p →
      HasOwnHistory (if b then [] else own_past i past) p
  back_history j i p true q at =
      set_back_here ps j p (ap (peer_at (with_set_back ps j)) (sym (eqb-true i j q)) ∙ at)
  back_history j i p false q at = each i p (sym (set_else ps j i _ (eqb-false i j q)) ∙ at)

module _ (step : EachEventIsOneStep) where
  history : (past : List NodeStep) (ps : List (Option Peer)) → NodeBecame past ps → Each past ps
  history past ps nobody_yet i p at = no_some p at
  history past ps (added old before c was) i p at = added_history old before (history old before was) c i p _ refl at
  history past ps (told old before after j e actions was tells) i p at =
      told_history old before (history old before was) step after j e actions i p _ refl tells at
  history past ps (refused_event old before j e was) i p at =
      refused_history old before (history old before was) e i p (nat_eq i j) at
  history past ps (unmoved old before was) i p at = history old before was i p at
  history past ps (removed old before j was) i p at =
      removed_history old before (history old before was) j i p at
  history past ps (back old before j was) i p at = back_history old before (history old before was) j i p _ refl at
  history past ps (all_back old before was) i p at =
      all_back_here p (peer_at before i) (sym (each_back before i) ∙ at)

pub histories : EachEventIsOneStep → EachNeighbourHasItsHistory
histories step past ps i p was at = history step past ps was i p at
