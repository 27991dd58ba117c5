-- What happens on one neighbour's connections leaves the others alone.
use Rattle.std.proofs.Common.{◌≡◌, inl, inr, ℕ, Bool, true, false, cond, nat_eq, ◌==◌, true≢false, Option, None, Some, List, [], ◌∷◌, refl, sym, ap, ◌∙◌, subst}
use Rattle.std.proofs.lemmas.Bool.{cond-false, false_from_ne_true}
use Rattle.std.specs.Option.{option_map}
use Rattle.dm_base.specs.declared.node.Node.{Node}
use Rattle.dm_history.specs.History.{new_peer}
use Rattle.dm_machine.specs.declared.connection.Conn.{Conn}
use Rattle.dm_machine.specs.declared.phase.Role.{Role}
use Rattle.dm_machine.specs.declared.phase.Role.TheVariants.{Initiated, Accepted}
use Rattle.dm_machine.specs.declared.state_name.State.{State}
use Rattle.dm_machine.specs.declared.state_name.State.TheVariants.{ROpen, IOpen}
use Rattle.dm_machine.specs.Connection.{hold_as, hold_in}
use Rattle.dm_machine.specs.Moves.{is_open}
use Rattle.dm_machine.specs.Node.{is_same_role, held_as}
use Rattle.dm_node.specs.declared.events.NodeEvent.{NodeEvent}
use Rattle.dm_node.specs.Holding.{peer_at, holds_it, holds_at, AreApart}
use Rattle.dm_node.specs.Policies.{Policy, no_strangers}
use Rattle.dm_node.specs.Strangers.{NodeMoves}
use Rattle.dm_node.specs.Telling.{IsFree, told_of}
use Rattle.dm_peer.specs.declared.actions.Action.{Action}
use Rattle.dm_peer.specs.declared.peer.Peer.{Peer}
use Rattle.dm_peer.specs.Events.{PeerEvent, Arrived}
use Rattle.dm_peer.specs.Holding.{is_held, holds, ClosedIsUnheld}
use Rattle.dm_slots.specs.Intakes.{Intake, Intakes, is_conn_number, with_intake, with_max, actions_close, left_by, raised_at}
use Rattle.dm_slots.specs.Raised.{own_of, other_of}
use Rattle.dm_slots.specs.Staying.{ClosingKeeps}
use Rattle.dm_node.specs.NodeLaws.{AreSoundNeighbours, IsLeftAlone}
use Rattle.dm_node.specs.NodeStates.{NodeState, NodeAnswer, NodeTells, NodeTellsOctets, NodeTellsAs, concerned_in, raised_for, node_settled, with_node_intakes}
use Rattle.dm_node.proofs.Closing.{ClosesItsOwn}
use Rattle.dm_node.proofs.Newcomers.{PeerLaws, AreBehind, octets_behind, event_behind, closed_octets}
use Rattle.dm_node.proofs.Places.{grown_else}
use Rattle.dm_node.proofs.Basics.{two_truths}
use Rattle.dm_node.proofs.NodeStaying.{by_number}
use Rattle.dm_node.proofs.NodeTold.{closed_moved}

-- a connection in a role is held
pub as_is_held : (s : State) (role : Role) → is_held (hold_as s role) ≡ true
as_is_held ROpen role = refl
as_is_held IOpen role = refl
as_is_held s Initiated = refl
as_is_held s Accepted = refl

in_role : (s : State) (role : Role) (held : List (Role × Conn)) (c : Conn) →
    is_conn_number c.0 (held_as role held) ≡ true → is_held (hold_in s held c) ≡ true
in_role s role [] c e = absurd (true≢false (sym e))
in_role s role (p ∷ ps) c e =
    by (p.1.0 == c.0) refl (is_same_role p.0 role) refl (λ rest. in_role s role ps c rest)
  where
    by : (b : Bool) → (p.1.0 == c.0) ≡ b → (r : Bool) → is_same_role p.0 role ≡ r →
        (is_conn_number c.0 (held_as role ps) ≡ true → is_held (hold_in s ps c) ≡ true) →
        is_held (cond b (hold_as s p.0) (hold_in s ps c)) ≡ true
    by true here r is more = as_is_held s p.0
    by false other true is more =
        absurd (two_truths (p.1.0 == c.0)
        (subst (λ b. is_conn_number c.0 (cond b (Some p.1) (held_as role ps)) ≡ true) is e) other)
    by false other false is more =
        more (subst (λ b. is_conn_number c.0 (cond b (Some p.1) (held_as role ps)) ≡ true) is e)

not_numbered : (role : Role) (p : Peer) (c : Conn) → holds c p ≡ false →
    is_conn_number c.0 (held_as role p.standing.core.held) ≡ false
not_numbered role p c free =
    false_from_ne_true (is_conn_number c.0 (held_as role p.standing.core.held)) (λ e.
    two_truths (holds c p) (in_role p.standing.core.state role p.standing.core.held c e) free)

raised_else : (most : ℕ) (o : Option Conn) (f : Intakes) (d : ℕ) → is_conn_number d o ≡ false → raised_at most o f d ≡ f d
raised_else most o f d e = cond-false (is_conn_number d o) (option_map (with_max most) (f d)) (f d) e

raised_elsewhere : (most : ℕ) (p : Option Peer) (f : Intakes) (c : Conn) → holds_it c p ≡ false →
    raised_for most p f c.0 ≡ f c.0
raised_elsewhere most None f c free = refl
raised_elsewhere most (Some p) f c free = by (is_open p.standing.core.state)
  where
    by : (b : Bool) → cond b (raised_at most (other_of p) (raised_at most (own_of p) f)) f c.0 ≡ f c.0
    by true =
        raised_else most (other_of p) (raised_at most (own_of p) f) c.0 (not_numbered Accepted p c free)
        ∙ raised_else most (own_of p) f c.0 (not_numbered Initiated p c free)
    by false = refl

-- whoever isn't told stays
same_peer : (ps qs : List (Option Peer)) (who : Option ℕ) (e : PeerEvent) (actions : List Action) (j : ℕ) →
    AreBehind ps qs who e actions → (who ≡ Some j → ⊥) → peer_at qs j ≡ peer_at ps j
same_peer ps qs None e actions j same un = ap (λ l. peer_at l j) same
same_peer ps qs (Some i) e actions j (inl told) un = told.others j (λ is. un (ap Some (sym is)))
same_peer ps qs (Some i) e actions j (inr (k, here, told)) un =
    told.others j (λ is. un (ap Some (sym is)))
    ∙ grown_else ps (Some (new_peer k k.first_id)) j (λ last. un (ap Some (here ∙ sym last)))

not_his : (qs : List (Option Peer)) (who : Option ℕ) (j : ℕ) (c : Conn) → AreApart qs → (who ≡ Some j → ⊥) →
    holds_at qs c j ≡ true → holds_it c (concerned_in qs who) ≡ false
not_his qs None j c apart un held = refl
not_his qs (Some i) j c apart un held =
    false_from_ne_true (holds_at qs c i) (λ own. un (ap Some (apart.one i j c own held)))

-- what is settled leaves alone whoever stays
settled_leaves : ClosingKeeps → (s t : NodeState) (answer : NodeAnswer) (qs : List (Option Peer)) (j : ℕ) →
    t ≡ node_settled answer.neighbour qs answer.actions s → AreApart t.peers → peer_at qs j ≡ peer_at s.peers j →
    ((c : Conn) → actions_close answer.actions c.0 ≡ true → IsFree qs c) → (answer.neighbour ≡ Some j → ⊥) → IsLeftAlone j s t
settled_leaves keeps s t answer qs j left apart same closed un = record {
  peer = ap (λ (v : NodeState). peer_at v.peers j) left ∙ same;
  came = λ c held.
      let now : holds_at qs c j ≡ true = ap (holds_it c) same ∙ held in
      ap (λ (v : NodeState). v.intakes c.0) left
      ∙ raised_elsewhere s.most (concerned_in qs answer.neighbour) (left_by answer.actions s.intakes) c
      (not_his qs answer.neighbour j c there un now)
      ∙ keeps answer.actions c.0 s.intakes
      (false_from_ne_true (actions_close answer.actions c.0) (λ is. two_truths (holds_at qs c j) now (closed c is j)));
}
  where
    there : AreApart qs
    there = subst (λ (v : NodeState). AreApart v.peers) left apart

-- whoever holds the connection on which octets come is told them
holder_is_told : (policy : Policy) (n : Node) (ps qs : List (Option Peer)) (who : Option ℕ) (actions : List Action)
    (j : ℕ) (c : Conn) (octets : List ℕ) → AreApart ps → NodeMoves policy c octets n ps who actions qs →
    (who ≡ Some j → ⊥) → holds_at ps c j ≡ true → ⊥
holder_is_told policy n ps qs (Some i) actions j c octets apart (inl m) un held = elim m.0 [
  | inl own ↦ un (ap Some (apart.one i j c own held))
  | inr strange ↦ two_truths (holds_at ps c j) held (strange.0 j)
]
holder_is_told policy n ps qs (Some i) actions j c octets apart (inr (k, permitted, joins)) un held =
    permitted.unknown.nobody j (inl held)
holder_is_told policy n ps qs None actions j c octets apart m un held = m.0 j (inl held)

-- what was taken of one connection is nothing of another
taken_elsewhere : (c : Conn) (i : Intake) (s t : NodeState) (j : ℕ) → (holds_at s.peers c j ≡ true → ⊥) →
    IsLeftAlone j (with_node_intakes (with_intake c.0 (Some i) s.intakes) s) t → IsLeftAlone j s t
taken_elsewhere c i s t j un alone = record {
  peer = alone.peer;
  came = λ d held.
      alone.came d held
      ∙ cond-false (nat_eq c.0 d.0) (Some i) (s.intakes d.0)
      (false_from_ne_true (nat_eq c.0 d.0)
      (λ e. un (subst (λ x. holds_at s.peers x j ≡ true) (by_number c d e) held)));
}

module _ (closed : ClosedIsUnheld) (own : ClosesItsOwn) (laws : PeerLaws) (keeps : ClosingKeeps) where
  pub event_leaves_others : (e : NodeEvent) (s t : NodeState) (answer : NodeAnswer) (j : ℕ) →
      AreSoundNeighbours s.peers → AreApart t.peers → NodeTells e s answer t → (answer.neighbour ≡ Some j → ⊥) →
      IsLeftAlone j s t
  event_leaves_others e s t answer j sound apart tells un =
      settled_leaves keeps s t answer tells.peers j tells.left apart
      (same_peer s.peers tells.peers answer.neighbour (told_of e) answer.actions j
      (event_behind no_strangers e s.node s.peers tells.peers answer.neighbour answer.actions tells.moved) un)
      (closed_moved closed own laws no_strangers e s.node s.peers tells.peers answer.neighbour answer.actions sound.kept
      sound.neighbourhood.apart tells.moved) un

  octets_leave_others : (policy : Policy) (c : Conn) (octets : List ℕ) (i : Intake) (s t : NodeState)
      (answer : NodeAnswer) (j : ℕ) → AreSoundNeighbours s.peers → AreApart t.peers →
      NodeTellsOctets policy c octets (with_node_intakes (with_intake c.0 (Some i) s.intakes) s) answer t →
      (answer.neighbour ≡ Some j → ⊥) → IsLeftAlone j s t
  octets_leave_others policy c octets i s t answer j sound apart tells un =
      taken_elsewhere c i s t j
      (holder_is_told policy s.node s.peers tells.peers answer.neighbour answer.actions j c octets
      sound.neighbourhood.apart tells.moved un)
      (settled_leaves keeps (with_node_intakes (with_intake c.0 (Some i) s.intakes) s) t answer tells.peers j tells.left
      apart
      (same_peer s.peers tells.peers answer.neighbour (Arrived c octets) answer.actions j
      (octets_behind policy c octets s.node s.peers tells.peers answer.neighbour answer.actions tells.moved) un)
      (closed_octets laws policy c octets s.node s.peers tells.peers answer.actions closed own answer.neighbour sound.kept
      sound.neighbourhood.apart tells.moved) un)

  pub next_leaves_others : (policy : Policy) (arrived : Option Conn) (c : Conn) (s t : NodeState) (answer : NodeAnswer)
      (j : ℕ) → AreSoundNeighbours s.peers → AreApart t.peers → NodeTellsAs policy arrived c s answer t →
      (answer.neighbour ≡ Some j → ⊥) → IsLeftAlone j s t
  next_leaves_others policy None c s t answer j sound apart h un =
      octets_leave_others policy c [] _ s t answer j sound apart h.told un
  next_leaves_others policy (Some d) c s t answer j sound apart h un =
      octets_leave_others policy c h.1.message _ s t answer j sound apart h.1.told un
