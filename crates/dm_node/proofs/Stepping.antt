-- Each call of a node is a step of its history, or two where a host is taken in.
use Rattle.std.proofs.Common.{◌≡◌, inl, inr, ℕ, Bool, true, false, cond, is_some, Option, None, Some, List, [], ◌∷◌, ◌++◌, refl, sym, ap, ◌∙◌, subst}
use Rattle.dm_machine.specs.declared.connection.Conn.{Conn}
use Rattle.dm_peer.specs.declared.actions.Action.{Action}
use Rattle.dm_peer.specs.declared.peer.Peer.{Peer}
use Rattle.dm_peer.specs.Events.{PeerEvent, Arrived}
use Rattle.dm_node.specs.Adding.{with_new}
use Rattle.dm_node.specs.Holding.{peer_at}
use Rattle.dm_node.specs.NodeHistory.{NodeStep, WasAdded, WasTold, MovedNobody, WasSetBack, AllWereSetBack, NodeBecame, added, told, unmoved, removed, back, all_back}
use Rattle.dm_node.specs.NodeOrders.{NodeTellsOnce, NodeTellsNothing, node_opened}
use Rattle.dm_node.specs.NodeStates.{NodeState, NodeAnswer, NodeTells, NodeTellsOctets, NodeTellsAs}
use Rattle.dm_node.specs.NodeSteps.{LeadTo, told_steps, asked_steps, OrderIsSteps, IsOneEvent, TurnIsSteps, AddingIsAStep, RemovingIsAStep}
use Rattle.dm_node.specs.Policies.{Policy, no_strangers}
use Rattle.dm_node.specs.Telling.{told_of}
use Rattle.dm_node.specs.declared.events.NodeEvent.{NodeEvent}
use Rattle.dm_node.specs.declared.events.NodeEvent.TheVariants as event
use Rattle.dm_node.specs.declared.order.Order.TheVariants as order
use Rattle.dm_slots.specs.Intakes.{is_there}
use Rattle.dm_node.proofs.Newcomers.{AreBehind, octets_behind, event_behind}
use Rattle.dm_node.proofs.NodeKnowing.{unheld_peers}
use Rattle.dm_node.proofs.Places.{nobody_behind}

-- nobody was told it; or who was there was, or who was added before
leads : (ps qs : List (Option Peer)) (who : Option ℕ) (e : PeerEvent) (actions : List Action) →
    AreBehind ps qs who e actions → LeadTo (told_steps ps who e actions) ps qs
leads ps qs None e actions same past before =
    subst (λ l. NodeBecame (MovedNobody ∷ past) l) (sym same) (unmoved past ps before)
leads ps qs (Some i) e actions (inl t) past before =
    let one = WasTold i e actions ∷ [] in
    let two = WasTold i e actions ∷ WasAdded i ∷ [] in
    subst (λ b. NodeBecame (cond b one two ++ past) qs) (sym (ap is_some t.was)) (told past ps qs i e actions before t)
leads ps qs (Some i) e actions (inr (k, here, t)) past before =
    let one = WasTold i e actions ∷ [] in
    let two = WasTold i e actions ∷ WasAdded i ∷ [] in
    let none : peer_at ps i ≡ None = ap (peer_at ps) here ∙ nobody_behind ps in
    let more : NodeBecame (WasAdded i ∷ past) (with_new ps k) =
    subst (λ j. NodeBecame (WasAdded j ∷ past) (with_new ps k)) (sym here) (added past ps k before) in
    subst (λ b. NodeBecame (cond b one two ++ past) qs) (sym (ap is_some none))
    (told (WasAdded i ∷ past) (with_new ps k) qs i e actions more t)

tells : (e : NodeEvent) (s : NodeState) (answer : NodeAnswer) (t : NodeState) → NodeTells e s answer t →
    LeadTo (asked_steps (Some e) s (Some answer)) s.peers t.peers
tells e s answer t h =
    subst (λ l. LeadTo (asked_steps (Some e) s (Some answer)) s.peers l) (sym (ap (λ (v : NodeState). v.peers) h.left))
    (leads s.peers h.peers answer.neighbour (told_of e) answer.actions
    (event_behind no_strangers e s.node s.peers h.peers answer.neighbour answer.actions h.moved))

-- an order's event, told or not
once : (e : NodeEvent) (s t : NodeState) (asks : Option NodeAnswer) → NodeTellsOnce e s asks t →
    LeadTo (asked_steps (Some e) s asks) s.peers t.peers
once e s t asks (answer, is, h) =
    subst (λ x. LeadTo (asked_steps (Some e) s x) s.peers t.peers) (sym is) (tells e s answer t h)

nothing : (o : Option NodeEvent) (s m t : NodeState) (asks : Option NodeAnswer) → m.peers ≡ s.peers → o ≡ None →
    NodeTellsNothing m asks t → LeadTo (asked_steps o s asks) s.peers t.peers
nothing o s m t asks same none (is, left) past before =
    subst (λ x. NodeBecame (asked_steps x s asks ++ past) t.peers) (sym none)
    (subst (NodeBecame past) (sym (ap (λ (v : NodeState). v.peers) left ∙ same)) before)

there : (b : Bool) (e : NodeEvent) (s t : NodeState) (asks : Option NodeAnswer) →
    cond b (NodeTellsOnce e s asks t) (NodeTellsNothing s asks t) →
    LeadTo (asked_steps (cond b (Some e) None) s asks) s.peers t.peers
there true e s t asks h = once e s t asks h
there false e s t asks h = nothing None s s t asks refl refl h

started : (b : Bool) (e : NodeEvent) (s o t : NodeState) (asks : Option NodeAnswer) → o.peers ≡ s.peers →
    cond b (NodeTellsNothing s asks t) (NodeTellsOnce e o asks t) →
    LeadTo (asked_steps (cond b None (Some e)) s asks) s.peers t.peers
started true e s o t asks same h = nothing None s s t asks refl refl h
started false e s o t None same (answer, is, h) = absurd (cc is)
started false e s o t (Some a) same h =
    subst (λ l. LeadTo (told_steps l a.neighbour (told_of e) a.actions) l t.peers) same (once e o t (Some a) h)

behind : (steps : List NodeStep) (s m t : NodeState) → t.peers ≡ m.peers → LeadTo steps s.peers m.peers →
    LeadTo steps s.peers t.peers
behind steps s m t same leads = subst (LeadTo steps s.peers) (sym same) leads

set_back : (steps : List NodeStep) (s m t : NodeState) (asks : Option NodeAnswer) → NodeTellsNothing m asks t →
    LeadTo steps s.peers m.peers → LeadTo steps s.peers t.peers
set_back steps s m t asks h leads = behind steps s m t (ap (λ (v : NodeState). v.peers) h.1) leads

pub order_is_steps : OrderIsSteps
order_is_steps (order.Start n c) s t asks h =
    started (is_there c.0 s.intakes) (event.Start n c) s (node_opened c s) t asks refl h
order_is_steps (order.Ack c) s t asks h = there (is_there c.0 s.intakes) (event.Ack c) s t asks h
order_is_steps (order.Nack c) s t asks (m, h, shut) =
    behind _ s m t (unheld_peers c m t shut) (there (is_there c.0 s.intakes) (event.Nack c) s m asks h)
order_is_steps (order.Accept c) s t asks h = nothing None s (node_opened c s) t asks refl refl h
order_is_steps (order.Gone c) s t asks (m, h, shut) =
    behind _ s m t (ap (λ (v : NodeState). v.peers) shut) (there (is_there c.0 s.intakes) (event.Gone c) s m asks h)
order_is_steps (order.Timeout n) s t asks h = once (event.Timeout n) s t asks h
order_is_steps (order.Tick n) s t asks h = once (event.Tick n) s t asks h
order_is_steps (order.Stop n cause) s t asks h = once (event.Stop n cause) s t asks h
order_is_steps (order.Submit n octets) s t asks h = once (event.Submit n octets) s t asks h
order_is_steps (order.Reset n) s t asks h = set_back (WasSetBack n ∷ []) s _ t asks h (λ past before. back past s.peers n before)
order_is_steps order.ResetAll s t asks h = set_back (AllWereSetBack ∷ []) s _ t asks h (λ past before. all_back past s.peers before)

-- octets that are told
octets_lead : (policy : Policy) (c : Conn) (octets : List ℕ) (s : NodeState) (answer : NodeAnswer) (t : NodeState) →
    NodeTellsOctets policy c octets s answer t →
    LeadTo (told_steps s.peers answer.neighbour (Arrived c octets) answer.actions) s.peers t.peers
octets_lead policy c octets s answer t h =
    let steps = told_steps s.peers answer.neighbour (Arrived c octets) answer.actions in
    subst (LeadTo steps s.peers) (sym (ap (λ (v : NodeState). v.peers) h.left))
    (leads s.peers h.peers answer.neighbour (Arrived c octets) answer.actions
    (octets_behind policy c octets s.node s.peers h.peers answer.neighbour answer.actions h.moved))

by_kind : (policy : Policy) (arrived : Option Conn) (c : Conn) (s : NodeState) (answer : NodeAnswer) (t : NodeState) →
    NodeTellsAs policy arrived c s answer t → IsOneEvent c s answer t
by_kind policy None c s answer t h =
    record { octets = []; leads = octets_lead policy c [] _ answer t h.told }
by_kind policy (Some d) c s answer t (is, h) =
    record { octets = h.message; leads = octets_lead policy c h.message _ answer t h.told }

pub turn_is_steps : TurnIsSteps
turn_is_steps policy c s t turn h = by_kind policy turn.arrived c s turn.answer t h

pub adding : AddingIsAStep
adding ps config past before = added past ps config before

pub removing : RemovingIsAStep
removing ps i past before = removed past ps i before
