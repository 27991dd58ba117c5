-- What came on a node's connection is told out in one way.
use Rattle.std.proofs.Common.{◌≡◌, inl, inr, ℕ, true, false, Option, None, Some, IsSome, IfSome, List, [], ◌∷◌, ◌++◌, length, refl, sym, ap, ◌∙◌, subst}
use Rattle.std.specs.List.{concat}
use Rattle.std.proofs.Math.ListN.{set}
use Rattle.dm_base.specs.declared.node.Node.{Node}
use Rattle.dm_base.specs.Before.{lower}
use Rattle.dm_framer.specs.Laws.{OneFront, FrameOrFault, FaultStands}
use Rattle.dm_framer.specs.Frames.{HasFault}
use Rattle.dm_history.specs.History.{new_peer}
use Rattle.dm_machine.specs.declared.connection.Conn.{Conn}
use Rattle.dm_node.specs.Adding.{with_new}
use Rattle.dm_node.specs.Holding.{peer_at, holds_it, holds_at, host_of, host_at}
use Rattle.dm_node.specs.Neighbourhoods.{IsNeighbourhood}
use Rattle.dm_node.specs.Policies.{Policy}
use Rattle.dm_node.specs.Strangers.{IsPermitted, NodeMoves}
use Rattle.dm_node.specs.Telling.{IsAddressed, PeerIsTold}
use Rattle.dm_peer.specs.declared.actions.Action.{Action}
use Rattle.dm_peer.specs.declared.config.Config.{Config}
use Rattle.dm_peer.specs.declared.peer.Peer.{Peer}
use Rattle.dm_peer.specs.Events.{Arrived}
use Rattle.dm_peer.specs.Settled.{IsSettled, LeavesSettled}
use Rattle.dm_slots.specs.Intakes.{Intake, IsFirst, IsFaulty, IsToldOut, with_intake, broken_intake}
use Rattle.dm_node.specs.NodeLaws.{AreSoundNeighbours}
use Rattle.dm_node.specs.NodeStreams.{NodeTellsAlong, NodeTellsPieces}
use Rattle.dm_node.specs.NodeStates.{NodeState, NodeAnswer, NodeTurn, NodeTellsOctets, NodeTellsMessage, NodeTellsFault, NodeTellsAs, NodeIsOut, node_fed, node_settled, with_node_intakes}
use Rattle.dm_node.proofs.Basics.{one_some, one_inside}
use Rattle.dm_node.proofs.Newcomers.{PeerLaws, stranger_free, peers_stay}
use Rattle.dm_node.proofs.NodeCuts.{cuts_alike, fed_nothing}
use Rattle.dm_node.proofs.Named.{unlike_same}
use Rattle.dm_node.proofs.Concerned.{one_addressed}
use Rattle.dm_node.proofs.OneMove.{moves_once}
use Rattle.dm_node.proofs.Growing.{still, unlike_grown}
use Rattle.dm_node.proofs.Places.{set_here, grown_cases, grown_here}
use Rattle.dm_node.proofs.Rostered.{apart_less, each_grown, each_set}
use Rattle.dm_node.proofs.Taking.{leaves, apart_after, hosts_after, told_set}

-- what the laws of telling rest on
pub record Wholly (ps : List (Option Peer)) : Type 0 where
  pub neighbourhood : IsNeighbourhood ps
  pub settled : (i : ℕ) (p : Peer) → peer_at ps i ≡ Some p → IsSettled p

pub wholly : (ps : List (Option Peer)) → AreSoundNeighbours ps → Wholly ps
wholly ps sound = record {
  neighbourhood = sound.neighbourhood;
  settled = λ i p at. (sound.kept i p at).settled;
}

-- the node with what is left of an intake
abbrev with_rest : Conn → NodeState → Intake → List ℕ → NodeState
with_rest c s i rest = with_node_intakes (with_intake c.0 (Some (record i { octets = rest })) s.intakes) s

abbrev with_broken : Conn → NodeState → Intake → NodeState
with_broken c s i = with_node_intakes (with_intake c.0 (Some (broken_intake i)) s.intakes) s

-- one turn
pub record SameTurn (x y : Option Conn) (a b : NodeAnswer) (t u : NodeState) : Type 0 where
  pub arrived : x ≡ y
  pub answer : a ≡ b
  pub left : t ≡ u

-- what a policy tells of connection c
module _ (policy : Policy) (c : Conn) where
  -- octets are told in one way
  tells_once : (octets : List ℕ) (s r t u : NodeState) (a b : NodeAnswer) → IsNeighbourhood s.peers → s ≡ r →
      NodeTellsOctets policy c octets s a t → NodeTellsOctets policy c octets r b u → (a ≡ b) × (t ≡ u)
  tells_once octets s r t u a b sound same h k =
      let also : NodeTellsOctets policy c octets s b u =
      subst (λ v. NodeTellsOctets policy c octets v b u) (sym same) k in
      let one = moves_once policy c octets s.node s.peers h.peers also.peers a b sound a.neighbour b.neighbour refl refl
      h.moved also.moved in
      let answer : a ≡ b = λ i. record { neighbour = one.neighbour i; actions = one.actions i } in (
        answer,
        h.left ∙ ap (λ (v : NodeAnswer). node_settled v.neighbour h.peers v.actions s) answer
            ∙ ap (λ l. node_settled b.neighbour l b.actions s) one.peers ∙ sym also.left,
      )

  module _ (front : OneFront) (either : FrameOrFault) where
    message_once : (s t u : NodeState) (a b : NodeAnswer) → IsNeighbourhood s.peers →
        NodeTellsMessage policy c s a t → NodeTellsMessage policy c s b u → (a ≡ b) × (t ≡ u)
    message_once s t u a b sound h k =
        let same = one_inside (s.intakes c.0) h.intake k.intake h.there k.there in
        let first : IsFirst h.intake k.message k.rest = subst (λ i. IsFirst i k.message k.rest) (sym same) k.first in
        let one = front h.intake.max h.message k.message h.rest k.rest h.first.frame first.frame
        (sym h.first.octets ∙ first.octets) in
        let told : NodeTellsOctets policy c h.message (with_rest c s k.intake k.rest) b u =
        subst (λ m. NodeTellsOctets policy c m (with_rest c s k.intake k.rest) b u) (sym one.0) k.told in
        tells_once h.message (with_rest c s h.intake h.rest) (with_rest c s k.intake k.rest) t u a b sound
        (ap (with_rest c s h.intake) one.1 ∙ ap (λ i. with_rest c s i k.rest) same) h.told told

    message_or_fault : (s t u : NodeState) (a b : NodeAnswer) → NodeTellsMessage policy c s a t →
        NodeTellsFault policy c s b u → ⊥
    message_or_fault s t u a b h k =
        let same = one_inside (s.intakes c.0) h.intake k.intake h.there k.there in
        let faulty : IsFaulty h.intake = subst (λ i. IsFaulty i) (sym same) k.faulty in
        either h.intake.max h.message h.rest faulty.fault.0 h.first.frame
        (subst (λ l. HasFault h.intake.max l faulty.fault.0) h.first.octets faulty.fault.1)

    next_once : (x y : Option Conn) (s t u : NodeState) (a b : NodeAnswer) → IsNeighbourhood s.peers →
        NodeTellsAs policy x c s a t → NodeTellsAs policy y c s b u → SameTurn x y a b t u
    next_once None None s t u a b sound h k =
        let same = one_inside (s.intakes c.0) h.intake k.intake h.there k.there in
        let one = tells_once [] (with_broken c s h.intake) (with_broken c s k.intake) t u a b sound
        (ap (with_broken c s) same) h.told k.told in
        record { arrived = refl; answer = one.0; left = one.1 }
    next_once None (Some e) s t u a b sound h k = absurd (message_or_fault s u t b a k.1 h)
    next_once (Some d) None s t u a b sound h k = absurd (message_or_fault s t u a b h.1 k)
    next_once (Some d) (Some e) s t u a b sound h k =
        let one = message_once s t u a b sound h.1 k.1 in
        record { arrived = ap (λ v. Some v) (h.0 ∙ sym k.0); answer = one.0; left = one.1 }

  -- where all is told no turn is left
  out_tells_nothing : (x : Option Conn) (s t : NodeState) (a : NodeAnswer) → NodeIsOut c s →
      NodeTellsAs policy x c s a t → ⊥
  out_tells_nothing None s t a out h =
      let told : IsToldOut h.intake = subst (λ o. IfSome o IsToldOut) h.there out in
      (told h.faulty.whole).no_fault h.faulty.fault.0 h.faulty.fault.1
  out_tells_nothing (Some d) s t a out h =
      let told : IsToldOut h.1.intake = subst (λ o. IfSome o IsToldOut) h.1.there out in
      (told h.1.first.whole).no_frame h.1.message h.1.rest h.1.first.frame h.1.first.octets

-- what octets leave is as sound as what was before them
module _ (laws : PeerLaws) (policy : Policy) (c : Conn) where
  wholly_told : (octets : List ℕ) (ps qs : List (Option Peer)) (i : ℕ) (actions : List Action) → Wholly ps →
      IsAddressed policy ps c octets i → PeerIsTold ps qs i (Arrived c octets) actions → Wholly qs
  wholly_told octets ps qs i actions sound at told =
      let e = Arrived c octets in
      let x = told.before in
      let y = told.after in
      let was = sound.settled i x told.was in
      let now : peer_at (set ps i (Some y)) i ≡ Some y = set_here ps i (Some y) (subst IsSome (sym told.was) refl) in
      let left = leaves laws.step laws.alone x y e was.shaped (inl (actions, told.acts)) in
      let after : IsSettled y = subst LeavesSettled told.acts (laws.settled x e was) in
      subst Wholly (sym (told_set ps qs i e actions told)) (record {
        neighbourhood = record {
          apart = apart_after ps i e x y told.was now left alone sound.neighbourhood.apart;
          unlike = unlike_same ps _ (hosts_after ps i e x y told.was now left) sound.neighbourhood.unlike;
        };
        settled = each_set IsSettled ps i (Some y) (λ p is. subst IsSettled (one_some y p is) after) sound.settled;
      })
    where
      alone : (j : ℕ) (d : Conn) → Some c ≡ Some d → holds_at ps d j ≡ true → j ≡ i
      alone j d named held =
          one_addressed policy ps c octets j i sound.neighbourhood
          (inl (subst (λ n. holds_at ps n j ≡ true) (sym (one_some c d named)) held)) at

  -- a host is added that nobody has, and then its CER concerns it
  module _ (octets : List ℕ) (ps : List (Option Peer)) (k : Config) (h : IsPermitted policy ps c octets k) where
    host_is : Some (lower k.peer) ≡ Some (lower h.unknown.call.1)
    host_is = sym (ap (λ (host : List ℕ). Some (lower host)) h.unknown.named)

    wholly_added : Wholly ps → Wholly (with_new ps k)
    wholly_added sound =
        let y = new_peer k k.first_id in
        record {
          neighbourhood = record {
            apart = apart_less ps (with_new ps k) (λ j d. still ps y k.first_id d j refl) sound.neighbourhood.apart;
            unlike = unlike_grown ps y k.peer refl
                (λ j is. h.unknown.nobody j (inr (
                  stranger_free policy ps c octets h.unknown.nobody,
                  inl (h.unknown.call, h.unknown.calls, is ∙ host_is),
                ))) sound.neighbourhood.unlike;
          };
          settled = each_grown IsSettled ps y (laws.fresh k k.first_id) sound.settled;
        }

    added_is_addressed : (i : ℕ) → i ≡ length ps → IsAddressed policy (with_new ps k) c octets i
    added_is_addressed i here =
        inr (
          λ j. grown_cases (λ o. holds_it c o ≡ false) ps (Some (new_peer k k.first_id)) j (λ last. refl)
              (stranger_free policy ps c octets h.unknown.nobody j),
          inl (
            h.unknown.call,
            h.unknown.calls,
            ap (host_at (with_new ps k)) here ∙ ap host_of (grown_here ps (Some (new_peer k k.first_id))) ∙ host_is,
          ),
        )

  moved_wholly : (octets : List ℕ) (n : Node) (ps qs : List (Option Peer)) (who : Option ℕ) (actions : List Action) →
      Wholly ps → NodeMoves policy c octets n ps who actions qs → Wholly qs
  moved_wholly octets n ps qs (Some i) actions sound (inl m) = wholly_told octets ps qs i actions sound m.0 m.1
  moved_wholly octets n ps qs (Some i) actions sound (inr (k, permitted, joins)) =
      wholly_told octets (with_new ps k) qs i actions (wholly_added octets ps k permitted sound)
      (added_is_addressed octets ps k permitted i joins.number) joins.told
  moved_wholly octets n ps qs None actions sound m =
      subst Wholly (sym (peers_stay policy c octets n ps qs actions m.1)) sound

  told_wholly : (octets : List ℕ) (s t : NodeState) (a : NodeAnswer) → Wholly s.peers →
      NodeTellsOctets policy c octets s a t → Wholly t.peers
  told_wholly octets s t a sound h =
      subst (λ (v : NodeState). Wholly v.peers) (sym h.left)
      (moved_wholly octets s.node s.peers h.peers a.neighbour a.actions sound h.moved)

  next_wholly : (x : Option Conn) (s t : NodeState) (a : NodeAnswer) → Wholly s.peers → NodeTellsAs policy x c s a t →
      Wholly t.peers
  next_wholly None s t a sound h = told_wholly [] (with_broken c s h.intake) t a sound h.told
  next_wholly (Some d) s t a sound h =
      told_wholly h.1.message (with_rest c s h.1.intake h.1.rest) t a sound h.1.told

same_turn : (turn other : NodeTurn) → turn.arrived ≡ other.arrived → turn.answer ≡ other.answer → turn ≡ other
same_turn turn other arrived answer = λ i. record { arrived = arrived i; answer = answer i }

module _ (front : OneFront) (either : FrameOrFault) (laws : PeerLaws) (policy : Policy) (c : Conn) where
  pub told_out_once : (s t u : NodeState) (turns others : List NodeTurn) → Wholly s.peers →
      NodeTellsAlong policy c s turns t → NodeIsOut c t → NodeTellsAlong policy c s others u → NodeIsOut c u →
      (turns ≡ others) × (t ≡ u)
  told_out_once s t u [] [] sound h out k also = (refl, sym h ∙ k)
  told_out_once s t u [] (other ∷ others) sound h out k also =
      absurd (out_tells_nothing policy c other.arrived s k.0 other.answer (subst (λ v. NodeIsOut c v) (sym h) out) k.1)
  told_out_once s t u (turn ∷ turns) [] sound h out k also =
      absurd (out_tells_nothing policy c turn.arrived s h.0 turn.answer (subst (λ v. NodeIsOut c v) (sym k) also) h.1)
  told_out_once s t u (turn ∷ turns) (other ∷ others) sound h out k also =
      let one = next_once policy c front either turn.arrived other.arrived s h.0 k.0 turn.answer other.answer
      sound.neighbourhood h.1 k.1 in
      let rest = told_out_once k.0 t u turns others
      (next_wholly laws policy c other.arrived s k.0 other.answer sound k.1)
      (subst (λ v. NodeTellsAlong policy c v turns t) one.left h.2) out k.2 also in
      (ap (λ x. x ∷ turns) (same_turn turn other one.arrived one.answer) ∙ ap (λ l. other ∷ l) rest.0, rest.1)

-- the pieces are a telling of the whole
pub pieces_along : FaultStands → (policy : Policy) (c : Conn) (pieces : List (List ℕ)) (s t : NodeState)
    (turns : List NodeTurn) → NodeTellsPieces policy c s pieces turns t →
    NodeTellsAlong policy c (node_fed c (concat pieces) s) turns t
pieces_along stands policy c [] s t turns h =
    subst (λ l. NodeTellsAlong policy c (node_fed c [] s) l t) (sym h.0) (fed_nothing c s ∙ h.1)
pieces_along stands policy c (piece ∷ pieces) s t turns h =
    subst (λ l. NodeTellsAlong policy c (node_fed c (piece ++ concat pieces) s) l t) (sym h.3)
    (cuts_alike stands policy c piece (concat pieces) s h.2 t h.0 h.1 h.4
    (pieces_along stands policy c pieces h.2 t h.1 h.5))
