-- Octets on a node's connection come to one thing.
use Rattle.std.proofs.Common.{◌≡◌, inl, inr, ℕ, Option, None, Some, List, sym, ap, ◌∙◌, subst}
use Rattle.std.proofs.Math.ListN.{set}
use Rattle.dm_base.specs.declared.node.Node.{Node}
use Rattle.dm_history.specs.History.{new_peer}
use Rattle.dm_machine.specs.declared.connection.Conn.{Conn}
use Rattle.dm_node.specs.Adding.{with_new}
use Rattle.dm_node.specs.Neighbourhoods.{IsNeighbourhood}
use Rattle.dm_node.specs.Policies.{Policy}
use Rattle.dm_node.specs.Strangers.{IsPermitted, Joins, NodeMoves}
use Rattle.dm_node.specs.Telling.{PeerIsTold}
use Rattle.dm_peer.specs.declared.actions.Action.{Action}
use Rattle.dm_peer.specs.declared.config.Config.{Config}
use Rattle.dm_peer.specs.declared.peer.Peer.{Peer}
use Rattle.dm_peer.specs.Acts.{Moved, acts}
use Rattle.dm_peer.specs.Events.{PeerEvent, Arrived}
use Rattle.dm_node.specs.NodeStates.{NodeAnswer}
use Rattle.dm_node.proofs.Basics.{one_some}
use Rattle.dm_node.proofs.Concerned.{one_addressed}
use Rattle.dm_node.proofs.Configured.{one_permitted, permitted_or_not}
use Rattle.dm_node.proofs.Newcomers.{OutOrTurnedOff, joined, peers_stay}
use Rattle.dm_node.proofs.Taking.{told_set}

same_actions : (a b : List Action) (p q : Peer) → Moved a p ≡ Moved b q → a ≡ b
same_actions a b p q e = cc

same_after : (a b : List Action) (p q : Peer) → Moved a p ≡ Moved b q → p ≡ q
same_after a b p q e = cc

told_once : (ps qs rs : List (Option Peer)) (i : ℕ) (e : PeerEvent) (a b : List Action) → PeerIsTold ps qs i e a →
    PeerIsTold ps rs i e b → (a ≡ b) × (qs ≡ rs)
told_once ps qs rs i e a b h k =
    let before : h.before ≡ k.before = one_some h.before k.before (sym h.was ∙ k.was) in
    let moved : Moved a h.after ≡ Moved b k.after = sym h.acts ∙ ap (λ p. acts p e) before ∙ k.acts in
    let after : h.after ≡ k.after = same_after a b h.after k.after moved in (
      same_actions a b h.after k.after moved,
      told_set ps qs i e a h ∙ ap (λ p. set ps i (Some p)) after ∙ sym (told_set ps rs i e b k),
    )

-- one event has one outcome
pub record SameMove (a b : NodeAnswer) (qs rs : List (Option Peer)) : Type 0 where
  pub neighbour : a.neighbour ≡ b.neighbour
  pub actions : a.actions ≡ b.actions
  pub peers : qs ≡ rs

-- octets of connection c, told by the policy
module _ (policy : Policy) (c : Conn) (octets : List ℕ) (n : Node) (ps : List (Option Peer)) where
  -- what a new peer does of the one configuration that is permitted
  acted_as : (k l : Config) (a : List Action) (q : Peer) → IsPermitted policy ps c octets k →
      IsPermitted policy ps c octets l → acts (new_peer l l.first_id) (Arrived c octets) ≡ Moved a q →
      acts (new_peer k k.first_id) (Arrived c octets) ≡ Moved a q
  acted_as k l a q permitted permits is =
      subst (λ (x : Config). acts (new_peer x x.first_id) (Arrived c octets) ≡ Moved a q)
      (sym (one_permitted policy ps c octets k l permitted permits)) is

  -- where a host joins it doesn't stay out
  joins_or_not : (qs rs : List (Option Peer)) (i : ℕ) (a b : List Action) (k : Config) →
      IsPermitted policy ps c octets k → Joins ps qs i c octets a k → OutOrTurnedOff policy c octets n ps b rs → ⊥
  joins_or_not qs rs i a b k permitted joins (inl (l, permits, out)) =
      let after : joins.told.after ≡ out.after =
      same_after a b joins.told.after out.after
      (sym (joined ps qs i c octets a k joins) ∙ acted_as k l b out.after permitted permits out.acted) in
      joins.stays (ap (λ (x : Peer). x.standing.core.state) after ∙ out.closed)
  joins_or_not qs rs i a b k permitted joins (inr (answer, same, forbidden)) =
      permitted_or_not policy ps c octets k permitted forbidden

  -- where octets concern nobody and nobody joins
  nobody_once : (qs rs : List (Option Peer)) (a b : List Action) → OutOrTurnedOff policy c octets n ps a qs →
      OutOrTurnedOff policy c octets n ps b rs → a ≡ b
  nobody_once qs rs a b (inl (k, permitted, out)) (inl (l, permits, also)) =
      same_actions a b out.after also.after
      (sym out.acted ∙ acted_as k l b also.after permitted permits also.acted)
  nobody_once qs rs a b (inl (k, permitted, out)) (inr (reply, also, forbidden)) =
      absurd (permitted_or_not policy ps c octets k permitted forbidden)
  nobody_once qs rs a b (inr (answer, same, forbidden)) (inl (l, permits, out)) =
      absurd (permitted_or_not policy ps c octets l permits forbidden)
  nobody_once qs rs a b (inr (answer, same, forbidden)) (inr (reply, also, never)) = answer ∙ sym reply

  pub moves_once : (qs rs : List (Option Peer)) (a b : NodeAnswer) → IsNeighbourhood ps → (x y : Option ℕ) →
      a.neighbour ≡ x → b.neighbour ≡ y → NodeMoves policy c octets n ps x a.actions qs →
      NodeMoves policy c octets n ps y b.actions rs → SameMove a b qs rs
  moves_once qs rs a b sound (Some i) (Some j) is also (inl h) (inl k) =
      let same : i ≡ j = one_addressed policy ps c octets i j sound h.0 k.0 in
      let one = told_once ps qs rs j (Arrived c octets) a.actions b.actions
      (subst (λ m. PeerIsTold ps qs m (Arrived c octets) a.actions) same h.1) k.1 in
      record { neighbour = is ∙ ap Some same ∙ sym also; actions = one.0; peers = one.1 }
  moves_once qs rs a b sound (Some i) (Some j) is also (inl h) (inr (k, permitted, joins)) =
      absurd (permitted.unknown.nobody i h.0)
  moves_once qs rs a b sound (Some i) (Some j) is also (inr (k, permitted, joins)) (inl h) =
      absurd (permitted.unknown.nobody j h.0)
  moves_once qs rs a b sound (Some i) (Some j) is also (inr (k, permitted, h)) (inr (l, permits, g)) =
      let number : i ≡ j = h.number ∙ sym g.number in
      let told : PeerIsTold (with_new ps k) rs j (Arrived c octets) b.actions =
      subst (λ (x : Config). PeerIsTold (with_new ps x) rs j (Arrived c octets) b.actions)
      (sym (one_permitted policy ps c octets k l permitted permits)) g.told in
      let one = told_once (with_new ps k) qs rs j (Arrived c octets) a.actions b.actions
      (subst (λ m. PeerIsTold (with_new ps k) qs m (Arrived c octets) a.actions) number h.told) told in
      record { neighbour = is ∙ ap Some number ∙ sym also; actions = one.0; peers = one.1 }
  moves_once qs rs a b sound (Some i) None is also (inl h) g = absurd (g.0 i h.0)
  moves_once qs rs a b sound (Some i) None is also (inr (k, permitted, joins)) g =
      absurd (joins_or_not qs rs i a.actions b.actions k permitted joins g.1)
  moves_once qs rs a b sound None (Some j) is also h (inl g) = absurd (h.0 j g.0)
  moves_once qs rs a b sound None (Some j) is also h (inr (k, permitted, joins)) =
      absurd (joins_or_not rs qs j b.actions a.actions k permitted joins h.1)
  moves_once qs rs a b sound None None is also h g = record {
    neighbour = is ∙ sym also;
    actions = nobody_once qs rs a.actions b.actions h.1 g.1;
    peers = peers_stay policy c octets n ps qs a.actions h.1 ∙ sym (peers_stay policy c octets n ps rs b.actions g.1);
  }
