-- A node of one neighbour is its peer.
use Rattle.std.proofs.Common.{◌≡◌, inl, inr, ◌⊎◌, ℕ, zero, suc, false, Option, None, Some, List, [], ◌∷◌, length, refl, sym, ap, ◌∙◌, subst}
use Rattle.std.proofs.lemmas.Bool.{false_from_ne_true}
use Rattle.dm_machine.specs.declared.connection.Conn.{Conn}
use Rattle.dm_base.specs.declared.node.Node.{Node}
use Rattle.dm_node.specs.declared.events.NodeEvent.{NodeEvent}
use Rattle.dm_node.specs.declared.events.NodeEvent.TheVariants as event
use Rattle.dm_node.specs.Holding.{peer_at}
use Rattle.dm_node.specs.Policies.{Policy, no_strangers, told_the_first}
use Rattle.dm_node.specs.Strangers.{IsPermitted, NodeMoves, NodeIsTold}
use Rattle.dm_node.specs.Telling.{Concerns, IsAddressed, IsCallOf, IsFree, PeerIsTold, told_of}
use Rattle.dm_peer.specs.declared.actions.Action.{Action}
use Rattle.dm_peer.specs.declared.config.Config.{Config}
use Rattle.dm_peer.specs.declared.peer.Peer.{Peer}
use Rattle.dm_peer.specs.Acts.{Moved, acts}
use Rattle.dm_machine.specs.Reading.{connect_event, end_event}
use Rattle.dm_machine.specs.Table.{IRcvConnAck, IRcvConnNack}
use Rattle.dm_peer.specs.Events.{PeerEvent, Ack, Nack, Gone, Arrived}
use Rattle.dm_peer.specs.Holding.{holds}
use Rattle.dm_peer.specs.Settled.{IsSettled}
use Rattle.dm_node.specs.NodeLaws.{AreSoundNeighbours, DoesAsItsPeer, TurnsAsItsPeer, OneDoesAsItsPeer}
use Rattle.dm_node.specs.NodeStates.{NodeState, NodeAnswer, NodeTellsOctets, NodeTellsAs, node_settled}
use Rattle.dm_node.proofs.Basics.{one_some}
use Rattle.dm_node.proofs.Unheld.{rests, is_new}

only_one : (qs : List (Option Peer)) (q : Peer) → length qs ≡ 1 → peer_at qs 0 ≡ Some q → qs ≡ Some q ∷ []
only_one [] q count is = absurd (cc count)
only_one (x ∷ []) q count is = ap (λ o. o ∷ []) is
only_one (x ∷ y ∷ more) q count is = absurd (cc count)

-- the one neighbour moved as its peer does
pub record MovesAlone (p : Peer) (e : PeerEvent) (actions : List Action) (who : ℕ) (qs : List (Option Peer))
    : Type 0 where
  pub next : Peer
  pub acted : acts p e ≡ Moved actions next
  pub left : qs ≡ Some next ∷ []
  pub first : who ≡ 0

at_first : (p : Peer) (qs : List (Option Peer)) (i : ℕ) (e : PeerEvent) (actions : List Action) →
    PeerIsTold (Some p ∷ []) qs i e actions → MovesAlone p e actions i qs
at_first p qs zero e actions h = record {
  next = h.after;
  acted = subst (λ x. acts x e ≡ Moved actions h.after) (sym (one_some p h.before h.was)) h.acts;
  left = only_one qs h.after h.count h.is;
  first = refl;
}
at_first p qs (suc i) e actions h = absurd (cc h.was)

told_alone : (e : PeerEvent) (p : Peer) (ps qs : List (Option Peer)) (k : ℕ) (actions : List Action) →
    ps ≡ Some p ∷ [] → PeerIsTold ps qs k e actions → MovesAlone p e actions k qs
told_alone e p ps qs k actions one told =
    at_first p qs k e actions (subst (λ l. PeerIsTold l qs k e actions) one told)

-- and so the node is left as its peer leaves it
tells_alone : (e : PeerEvent) (p : Peer) (s t : NodeState) (answer : NodeAnswer) (qs : List (Option Peer)) (k : ℕ) →
    MovesAlone p e answer.actions k qs → answer.neighbour ≡ Some k →
    t ≡ node_settled answer.neighbour qs answer.actions s → DoesAsItsPeer e p s answer.actions t
tells_alone e p s t answer qs k alone is left = (
  alone.next,
  alone.acted,
  left ∙ ap (λ w. node_settled w qs answer.actions s) (is ∙ ap Some alone.first)
      ∙ ap (λ l. node_settled (Some 0) l answer.actions s) alone.left,
)

-- an event that concerns nobody is nothing to the peer
rests_alone : (e : NodeEvent) (p : Peer) → IsSettled p →
    ((c : Conn) (octets : List ℕ) → told_of e ≡ Arrived c octets → ⊥) →
    ((i : ℕ) → Concerns no_strangers (Some p ∷ []) e i → ⊥) → acts p (told_of e) ≡ Moved [] p
rests_alone (event.Ack c) p was none nobody = rests p (Ack c) was (ap (connect_event IRcvConnAck) (is_new p c (nobody 0)))
rests_alone (event.Nack c) p was none nobody =
    rests p (Nack c) was (ap (connect_event IRcvConnNack) (is_new p c (nobody 0)))
rests_alone (event.Gone c) p was none nobody =
    rests p (Gone c) was (ap (end_event p.standing.core.state) (is_new p c (nobody 0)))
rests_alone (event.Arrived c octets) p was none nobody = absurd (none c octets.now refl)
rests_alone e p was none nobody = absurd (nobody _ refl)

abbrev DoesOrRests : NodeEvent → Peer → NodeState → NodeAnswer → NodeState → Type 0
DoesOrRests e p s answer t =
    ((answer.neighbour ≡ Some 0) × DoesAsItsPeer (told_of e) p s answer.actions t)
    ⊎ ((answer.neighbour ≡ None) × (answer.actions ≡ []) × (t ≡ s) × (acts p (told_of e) ≡ Moved [] p))

event_alone : (e : NodeEvent) (p : Peer) (s t : NodeState) (answer : NodeAnswer) (qs : List (Option Peer)) →
    AreSoundNeighbours s.peers → ((c : Conn) (octets : List ℕ) → told_of e ≡ Arrived c octets → ⊥) →
    s.peers ≡ Some p ∷ [] → (who : Option ℕ) → answer.neighbour ≡ who →
    NodeIsTold no_strangers e s.node s.peers who answer.actions qs →
    t ≡ node_settled answer.neighbour qs answer.actions s → DoesOrRests e p s answer t
event_alone (event.Arrived c octets) p s t answer qs sound none one who is m left = absurd (none c octets.now refl)
event_alone e p s t answer qs sound none one (Some k) is m left =
    let alone = told_alone (told_of e) p s.peers qs k answer.actions one m.1 in
    inl (is ∙ ap Some alone.first, tells_alone (told_of e) p s t answer qs k alone is left)
event_alone e p s t answer qs sound none one None is m left =
    let was : IsSettled p = (sound.kept 0 p (ap (λ l. peer_at l 0) one)).settled in
    inr (
      is,
      m.1,
      left ∙ ap (λ w. node_settled w qs answer.actions s) is ∙ ap (λ l. node_settled None l answer.actions s) m.2
          ∙ ap (λ l. node_settled None s.peers l s) m.1,
      rests_alone e p was none
          (λ i concerned. m.0 i (subst (λ l. Concerns no_strangers l e i) (sym one) concerned)),
    )

pub does_as_its_peer : OneDoesAsItsPeer
does_as_its_peer e p s t answer sound none one tells =
    event_alone e p s t answer tells.peers sound none one answer.neighbour refl tells.moved tells.left

-- what a stranger sends concerns the one neighbour, where that is the porter
free_first : (p : Peer) (c : Conn) → holds c p ≡ false → IsFree (Some p ∷ []) c
free_first p c free zero = free
free_first p c free (suc j) = refl

not_called : (p : Peer) (octets : List ℕ) → (IsCallOf (Some p ∷ []) octets 0 → ⊥) → (j : ℕ) →
    IsCallOf (Some p ∷ []) octets j → ⊥
not_called p octets none zero call = none call
not_called p octets none (suc j) call = absurd (cc call.2)

porter_is_told : (p : Peer) (c : Conn) (octets : List ℕ) →
    ((i : ℕ) → IsAddressed told_the_first (Some p ∷ []) c octets i → ⊥) → ⊥
porter_is_told p c octets nobody =
    nobody 0 (inr (free, inr (not_called p octets (λ call. nobody 0 (inr (free, inl call))), (refl, refl))))
  where
    free : IsFree (Some p ∷ []) c
    free = free_first p c (false_from_ne_true (holds c p) (λ held. nobody 0 (inl held)))

none_taken : (ps : List (Option Peer)) (c : Conn) (octets : List ℕ) (k : Config) →
    IsPermitted told_the_first ps c octets k → ⊥
none_taken ps c octets k h =
    let never : ◌≡◌ {A = Option Config} None (Some h.made.template) = h.made.chosen in absurd (cc)

first_is_told : (c : Conn) (octets : List ℕ) (n : Node) (p : Peer) (ps qs : List (Option Peer)) (who : Option ℕ)
    (actions : List Action) → ps ≡ Some p ∷ [] → NodeMoves told_the_first c octets n ps who actions qs → who ≡ Some 0
first_is_told c octets n p ps qs (Some k) actions one (inl m) =
    ap Some (told_alone (Arrived c octets) p ps qs k actions one m.1).first
first_is_told c octets n p ps qs (Some k) actions one (inr (config, permitted, joins)) =
    absurd (none_taken ps c octets config permitted)
first_is_told c octets n p ps qs None actions one m =
    absurd (porter_is_told p c octets
    (λ i at. m.0 i (subst (λ l. IsAddressed told_the_first l c octets i) (sym one) at)))

first_turns : (arrived : Option Conn) (c : Conn) (p : Peer) (s t : NodeState) (answer : NodeAnswer) →
    s.peers ≡ Some p ∷ [] → NodeTellsAs told_the_first arrived c s answer t → answer.neighbour ≡ Some 0
first_turns None c p s t answer one h =
    first_is_told c [] s.node p s.peers h.told.peers answer.neighbour answer.actions one h.told.moved
first_turns (Some d) c p s t answer one h =
    first_is_told c h.1.message s.node p s.peers h.1.told.peers answer.neighbour answer.actions one h.1.told.moved

-- and octets that concern it do so by any policy
concerned_alone : (policy : Policy) (c : Conn) (octets : List ℕ) (n : Node) (p : Peer) (ps qs : List (Option Peer))
    (who : Option ℕ) (actions : List Action) → ps ≡ Some p ∷ [] → NodeMoves policy c octets n ps who actions qs →
    who ≡ Some 0 → (k : ℕ) × (who ≡ Some k) × MovesAlone p (Arrived c octets) actions k qs
concerned_alone policy c octets n p ps qs (Some k) actions one (inl m) is =
    (k, refl, told_alone (Arrived c octets) p ps qs k actions one m.1)
concerned_alone policy c octets n p ps qs (Some k) actions one (inr (config, permitted, joins)) is =
    let clash : 0 ≡ length (Some p ∷ []) = sym (one_some k 0 is) ∙ joins.number ∙ ap length one in absurd (cc clash)
concerned_alone policy c octets n p ps qs None actions one m is = absurd (cc is)

concerned_told : (policy : Policy) (c : Conn) (octets : List ℕ) (p : Peer) (s t : NodeState) (answer : NodeAnswer) →
    s.peers ≡ Some p ∷ [] → NodeTellsOctets policy c octets s answer t → answer.neighbour ≡ Some 0 →
    DoesAsItsPeer (Arrived c octets) p s answer.actions t
concerned_told policy c octets p s t answer one tells is =
    let alone = concerned_alone policy c octets s.node p s.peers tells.peers answer.neighbour answer.actions one
    tells.moved is in
    tells_alone (Arrived c octets) p s t answer tells.peers alone.0 alone.2 alone.1 tells.left

-- a turn is one of the peer where its octets are told so
pub concerned_turns_as_its_peer : (policy : Policy) (arrived : Option Conn) (c : Conn) (p : Peer) (s t : NodeState)
    (answer : NodeAnswer) → s.peers ≡ Some p ∷ [] → NodeTellsAs policy arrived c s answer t →
    answer.neighbour ≡ Some 0 → TurnsAsItsPeer arrived c p s answer.actions t
concerned_turns_as_its_peer policy None c p s t answer one h is =
    let told = concerned_told policy c [] p _ t answer one h.told is in
    record { intake = h.intake; there = h.there; faulty = h.faulty; told = told }
concerned_turns_as_its_peer policy (Some d) c p s t answer one h is =
    let told = concerned_told policy c h.1.message p _ t answer one h.1.told is in (
      h.0,
      record {
        intake = h.1.intake;
        message = h.1.message;
        rest = h.1.rest;
        there = h.1.there;
        first = h.1.first;
        told = told;
      },
    )

pub first_turns_as_its_peer : (arrived : Option Conn) (c : Conn) (p : Peer) (s t : NodeState) (answer : NodeAnswer) →
    s.peers ≡ Some p ∷ [] → NodeTellsAs told_the_first arrived c s answer t →
    (answer.neighbour ≡ Some 0) × TurnsAsItsPeer arrived c p s answer.actions t
first_turns_as_its_peer arrived c p s t answer one h =
    let is = first_turns arrived c p s t answer one h in
    (is, concerned_turns_as_its_peer told_the_first arrived c p s t answer one h is)
