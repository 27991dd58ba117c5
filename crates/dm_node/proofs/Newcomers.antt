-- A host that is no neighbour becomes one at its CER: what is held behind it, and what is closed.
use Rattle.std.proofs.Common.{◌≡◌, inl, inr, ◌⊎◌, ℕ, true, false, IsTrue, Option, None, Some, List, length, refl, sym, ap, ◌∙◌, subst}
use Rattle.std.proofs.lemmas.Bool.{cases_eq, false_from_ne_true}
use Rattle.dm_base.specs.declared.node.Node.{Node}
use Rattle.dm_history.specs.History.{new_peer}
use Rattle.dm_machine.specs.declared.connection.Conn.{Conn}
use Rattle.dm_machine.specs.Node.{is_shaped}
use Rattle.dm_machine.specs.Openings.{LeavesOthersAlone, ClosesWhatItGivesUp}
use Rattle.dm_node.specs.Adding.{with_new}
use Rattle.dm_node.specs.Calling.{caller_of, answer_to}
use Rattle.dm_node.specs.Holding.{peer_at, holds_it, holds_at, AreApart}
use Rattle.dm_node.specs.Policies.{Policy}
use Rattle.dm_node.specs.Strangers.{IsPermitted, IsForbidden, Joins, StaysOut, NodeMoves, NodeIsTold}
use Rattle.dm_node.specs.Telling.{IsAddressed, IsFree, PeerIsTold, told_of}
use Rattle.dm_node.specs.declared.events.NodeEvent.{NodeEvent}
use Rattle.dm_node.specs.declared.events.NodeEvent.TheVariants as event
use Rattle.dm_peer.specs.declared.actions.Action.{Action}
use Rattle.dm_peer.specs.declared.config.Config.{Config}
use Rattle.dm_peer.specs.declared.peer.Peer.{Peer}
use Rattle.dm_peer.specs.Acts.{Moved, acts}
use Rattle.dm_peer.specs.Events.{PeerEvent, Arrived}
use Rattle.dm_peer.specs.Holding.{holds, OthersStayUnheld, ClosedIsUnheld}
use Rattle.dm_peer.specs.Settled.{FreshIsSettled, EachEventKeepsSettled}
use Rattle.dm_peer.specs.Steps.{EachEventIsOneStep}
use Rattle.dm_slots.specs.Intakes.{Intakes, actions_close}
use Rattle.dm_slots.specs.Naming.{NamesThere}
use Rattle.dm_node.specs.NodeHeld.{AllHeldAreThere, AreKept}
use Rattle.dm_node.proofs.Basics.{one_some, two_truths}
use Rattle.dm_node.proofs.Closing.{ClosesItsOwn, closes_shaped}
use Rattle.dm_node.proofs.Growing.{still}
use Rattle.dm_node.proofs.NodeMoving.{held_told, came_there, octets_alone, closed_told, closed_answer}
use Rattle.dm_node.proofs.Places.{grown_here, grown_else}
use Rattle.dm_node.proofs.Taking.{stays}

-- what is known of the events of a peer
pub record PeerLaws : Type 0 where
  pub step : EachEventIsOneStep
  pub fresh : FreshIsSettled
  pub settled : EachEventKeepsSettled
  pub alone : LeavesOthersAlone
  pub gives_up : ClosesWhatItGivesUp

pub peer_laws : EachEventIsOneStep → FreshIsSettled → EachEventKeepsSettled → LeavesOthersAlone →
    ClosesWhatItGivesUp → PeerLaws
peer_laws step fresh settled alone gives_up =
    record { step = step; fresh = fresh; settled = settled; alone = alone; gives_up = gives_up }

fresh_shaped : PeerLaws → (k : Config) → IsTrue (is_shaped (new_peer k k.first_id).standing.core)
fresh_shaped laws k = (laws.fresh k k.first_id).shaped

-- a new peer that is told octets closes at most their connection, which it doesn't hold then
first_closes : PeerLaws → (k : Config) (q : Peer) (c d : Conn) (octets : List ℕ) (actions : List Action) →
    acts (new_peer k k.first_id) (Arrived c octets) ≡ Moved actions q → actions_close actions d.0 ≡ true →
    (c ≡ d) × (holds d q ≡ false)
first_closes laws k q c d octets actions is closing =
    let own = closes_shaped laws.step laws.gives_up (new_peer k k.first_id) q (Arrived c octets) actions d
    (fresh_shaped laws k) is closing in (
      elim own.0 [
        | inl held ↦ absurd (two_truths false held refl)
        | inr came ↦ came_there c d octets came
      ],
      own.1,
    )

-- who is told something just behind being added is a new peer
added_before : (ps : List (Option Peer)) (k : Config) (i : ℕ) (x : Peer) → i ≡ length ps →
    peer_at (with_new ps k) i ≡ Some x → new_peer k k.first_id ≡ x
added_before ps k i x here at =
    one_some (new_peer k k.first_id) x
    (sym (grown_here ps (Some (new_peer k k.first_id))) ∙ ap (peer_at (with_new ps k)) (sym here) ∙ at)

-- a new peer was told the octets
pub joined : (ps qs : List (Option Peer)) (i : ℕ) (c : Conn) (octets : List ℕ) (actions : List Action) (k : Config)
    (h : Joins ps qs i c octets actions k) →
    acts (new_peer k k.first_id) (Arrived c octets) ≡ Moved actions h.told.after
joined ps qs i c octets actions k h =
    subst (λ x. acts x (Arrived c octets) ≡ Moved actions h.told.after)
    (sym (added_before ps k i h.told.before h.number h.told.was)) h.told.acts

-- the others are what they were
pub else_at : (ps qs : List (Option Peer)) (i j : ℕ) (c : Conn) (octets : List ℕ) (actions : List Action) (k : Config) →
    Joins ps qs i c octets actions k → (j ≡ i → ⊥) → peer_at qs j ≡ peer_at ps j
else_at ps qs i j c octets actions k h un =
    h.told.others j un ∙ grown_else ps (Some (new_peer k k.first_id)) j (λ last. un (last ∙ sym h.number))

-- nobody holds a connection on which an unknown host calls
pub stranger_free : (policy : Policy) (ps : List (Option Peer)) (c : Conn) (octets : List ℕ) →
    ((i : ℕ) → IsAddressed policy ps c octets i → ⊥) → IsFree ps c
stranger_free policy ps c octets nobody j = false_from_ne_true (holds_at ps c j) (λ held. nobody j (inl held))

-- where nobody was told the octets: somebody stayed out, or a stranger was answered
abbrev pub OutOrTurnedOff :
    Policy → Conn → List ℕ → Node → List (Option Peer) → List Action → List (Option Peer) → Type 0
OutOrTurnedOff policy c octets n ps actions qs =
    ((k : Config) × IsPermitted policy ps c octets k × StaysOut ps qs c octets actions k)
    ⊎ ((actions ≡ answer_to n c (caller_of octets)) × (qs ≡ ps) × IsForbidden policy ps c octets)

pub peers_stay : (policy : Policy) (c : Conn) (octets : List ℕ) (n : Node) (ps qs : List (Option Peer))
    (actions : List Action) → OutOrTurnedOff policy c octets n ps actions qs → qs ≡ ps
peers_stay policy c octets n ps qs actions (inl (k, permitted, out)) = out.same
peers_stay policy c octets n ps qs actions (inr (answer, same, forbidden)) = same

-- the neighbours behind an event: one was told it, who was there or was added just before, or all are what they were
abbrev pub AreBehind : List (Option Peer) → List (Option Peer) → Option ℕ → PeerEvent → List Action → Type 0
AreBehind ps qs None e actions = qs ≡ ps
AreBehind ps qs (Some i) e actions =
    PeerIsTold ps qs i e actions
    ⊎ ((k : Config) × (i ≡ length ps) × PeerIsTold (with_new ps k) qs i e actions)

pub octets_behind : (policy : Policy) (c : Conn) (octets : List ℕ) (n : Node) (ps qs : List (Option Peer))
    (who : Option ℕ) (actions : List Action) → NodeMoves policy c octets n ps who actions qs →
    AreBehind ps qs who (Arrived c octets) actions
octets_behind policy c octets n ps qs (Some i) actions (inl m) = inl m.1
octets_behind policy c octets n ps qs (Some i) actions (inr (k, permitted, joins)) = inr (k, joins.number, joins.told)
octets_behind policy c octets n ps qs None actions m = peers_stay policy c octets n ps qs actions m.1

pub event_behind : (policy : Policy) (e : NodeEvent) (n : Node) (ps qs : List (Option Peer)) (who : Option ℕ)
    (actions : List Action) → NodeIsTold policy e n ps who actions qs → AreBehind ps qs who (told_of e) actions
event_behind policy (event.Arrived c octets) n ps qs who actions m =
    octets_behind policy c octets.now n ps qs who actions m
event_behind policy e n ps qs (Some i) actions m = inl m.1
event_behind policy e n ps qs None actions m = m.2

-- what is held behind it is there
pub held_behind : OthersStayUnheld → PeerLaws → (ps qs : List (Option Peer)) (who : Option ℕ) (e : PeerEvent)
    (actions : List Action) (f : Intakes) → AreKept ps → AreBehind ps qs who e actions → AllHeldAreThere ps f →
    NamesThere e f → AllHeldAreThere qs f
held_behind others laws ps qs None e actions f kept same there named =
    subst (λ l. AllHeldAreThere l f) (sym same) there
held_behind others laws ps qs (Some i) e actions f kept (inl told) there named =
    held_told ps qs i e actions f told
    (λ c. others told.before told.after e actions c (kept i told.before told.was) told.acts) there named
held_behind others laws ps qs (Some i) e actions f kept (inr (k, here, told)) there named =
    let new = new_peer k k.first_id in
    let shaped : IsTrue (is_shaped told.before.standing.core) =
    subst (λ (x : Peer). IsTrue (is_shaped x.standing.core)) (added_before ps k i told.before here told.was)
    (fresh_shaped laws k) in
    held_told (with_new ps k) qs i e actions f told
    (λ c free other. stays laws.step laws.alone told.before told.after e actions shaped told.acts c other free)
    (λ j c held. there j c (still ps new k.first_id c j refl held)) named

-- octets of connection c, told by the policy
module _ (laws : PeerLaws) (policy : Policy) (c : Conn) (octets : List ℕ) (n : Node) (ps qs : List (Option Peer))
    (actions : List Action) where
  closed_joined : (i : ℕ) (k : Config) → Joins ps qs i c octets actions k → IsFree ps c → (d : Conn) →
      actions_close actions d.0 ≡ true → IsFree qs d
  closed_joined i k h free d closing j =
      let most = first_closes laws k h.told.after c d octets actions (joined ps qs i c octets actions k h) closing in
      elim (cases_eq j i) [
        | inl s ↦ ap (holds_it d) (ap (peer_at qs) s ∙ h.told.is) ∙ most.1
        | inr un ↦
            ap (holds_it d) (else_at ps qs i j c octets actions k h un)
            ∙ subst (λ x. holds_at ps x j ≡ false) most.0 (free j)
      ]

  -- where nobody was told them, theirs alone is closed
  theirs_is_closed : OutOrTurnedOff policy c octets n ps actions qs → (d : Conn) → actions_close actions d.0 ≡ true →
      c ≡ d
  theirs_is_closed (inl (k, permitted, out)) d closing =
      (first_closes laws k out.after c d octets actions out.acted closing).0
  theirs_is_closed (inr (answer, same, forbidden)) d closing =
      closed_answer n c (caller_of octets) d (ap (λ l. actions_close l d.0) (sym answer) ∙ closing)

  -- what is closed nobody holds behind them
  pub closed_octets : ClosedIsUnheld → ClosesItsOwn → (who : Option ℕ) → AreKept ps → AreApart ps →
      NodeMoves policy c octets n ps who actions qs → (d : Conn) → actions_close actions d.0 ≡ true → IsFree qs d
  closed_octets closed own (Some i) kept apart (inl m) d closing =
      closed_told closed own ps qs i (Arrived c octets) actions kept apart (octets_alone policy ps c octets i apart m.0)
      m.1 d closing
  closed_octets closed own (Some i) kept apart (inr (k, permitted, joins)) d closing =
      closed_joined i k joins (stranger_free policy ps c octets permitted.unknown.nobody) d closing
  closed_octets closed own None kept apart m d closing =
      subst (λ l. IsFree l d) (sym (peers_stay policy c octets n ps qs actions m.1))
      (subst (λ x. IsFree ps x) (theirs_is_closed m.1 d closing) (stranger_free policy ps c octets m.0))
