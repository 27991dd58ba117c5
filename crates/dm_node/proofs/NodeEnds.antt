-- Behind a Close of a node's connection, and behind its end, nothing is told of it.
use Rattle.std.proofs.Common.{◌≡◌, inl, inr, ℕ, Bool, true, false, cond, nat_eq, Option, None, Some, is_some, List, [], refl, sym, ap, ◌∙◌, subst}
use Rattle.std.proofs.Math.Path.{fun_ext}
use Rattle.std.proofs.lemmas.Bool.{eqb-true}
use Rattle.std.specs.Option.{option_map}
use Rattle.dm_machine.specs.declared.connection.Conn.{Conn}
use Rattle.dm_node.specs.declared.events.NodeEvent.{NodeEvent}
use Rattle.dm_node.specs.declared.events.NodeEvent.TheVariants as event
use Rattle.dm_node.specs.Policies.{Policy}
use Rattle.dm_slots.specs.Intakes.{Intakes, is_there, taken_down, fed_intake, with_max, actions_close, left_by}
use Rattle.dm_node.specs.declared.order.Order.{Order}
use Rattle.dm_node.specs.declared.order.Order.TheVariants as order
use Rattle.dm_node.specs.NodeEnding.{IsOnConn, NodeGoneKeepsNothing}
use Rattle.dm_node.specs.NodeOrders.{NodeTellsOnce, NodeTellsNothing, NodeTellsIfThere, NodeTakes, ShutsUnheld}
use Rattle.dm_node.specs.NodeStates.{NodeState, NodeAnswer, NodeTellsOctets, NodeTellsAs, concerned_in, with_node_intakes}
use Rattle.dm_node.proofs.Basics.{no_some}
use Rattle.dm_node.proofs.NodeStaying.{raised_keeps}

-- what was closed isn't there
closed_is_gone : (policy : Policy) (c : Conn) (octets : List ℕ) (s t : NodeState) (answer : NodeAnswer) (d : ℕ) →
    NodeTellsOctets policy c octets s answer t → actions_close answer.actions d ≡ true → t.intakes d ≡ None
closed_is_gone policy c octets s t answer d told is =
    ap (λ (v : NodeState). v.intakes d) told.left
    ∙ raised_keeps (λ o. o ≡ None) s.most d (λ o none. ap (option_map (with_max s.most)) none)
    (concerned_in told.peers answer.neighbour) (left_by answer.actions s.intakes)
    (ap (λ b. cond b None (s.intakes d)) is)

pub close_is_last : (policy : Policy) (arrived : Option Conn) (c d : Conn) (s t : NodeState) (answer : NodeAnswer) →
    NodeTellsAs policy arrived c s answer t → actions_close answer.actions d.0 ≡ true → t.intakes d.0 ≡ None
close_is_last policy None c d s t answer h is = closed_is_gone policy c [] _ t answer d.0 h.told is
close_is_last policy (Some e) c d s t answer h is = closed_is_gone policy c h.1.message _ t answer d.0 h.1.told is

pub gone_tells_nothing : (policy : Policy) (arrived : Option Conn) (c : Conn) (s t : NodeState)
    (answer : NodeAnswer) → s.intakes c.0 ≡ None → NodeTellsAs policy arrived c s answer t → ⊥
gone_tells_nothing policy None c s t answer none h = no_some h.intake (sym none ∙ h.there)
gone_tells_nothing policy (Some e) c s t answer none h = no_some h.1.intake (sym none ∙ h.1.there)

-- an event of a connection that isn't there
not_there : (c d : Conn) (e : NodeEvent) (s t : NodeState) (asks : Option NodeAnswer) → s.intakes c.0 ≡ None →
    d ≡ c → NodeTellsIfThere d e s asks t → NodeTellsNothing s asks t
not_there c d e s t asks none same h =
    let gone : is_there d.0 s.intakes ≡ false = ap (λ v. is_there v.0 s.intakes) same ∙ ap is_some none in
    subst (λ b. cond b (NodeTellsOnce e s asks t) (NodeTellsNothing s asks t)) gone h

none_shut : (d c : ℕ) (f : Intakes) → f c ≡ None → taken_down d f c ≡ None
none_shut d c f h = by (nat_eq d c)
  where
    by : (b : Bool) → cond b None (f c) ≡ None
    by true = refl
    by false = h

none_unheld : (c d : Conn) (s t : NodeState) → s.intakes c.0 ≡ None → ShutsUnheld d s t → t.intakes c.0 ≡ None
none_unheld c d s t none (inl held) = ap (λ (v : NodeState). v.intakes c.0) held.2 ∙ none
none_unheld c d s t none (inr free) =
    ap (λ (v : NodeState). v.intakes c.0) free.1 ∙ none_shut d.0 c.0 s.intakes none

pub gone_is_silent : (c : Conn) (o : Order) (s t : NodeState) (asks : Option NodeAnswer) →
    s.intakes c.0 ≡ None → IsOnConn c o → NodeTakes o s asks t → (asks ≡ None) × (t.intakes c.0 ≡ None)
gone_is_silent c (order.Ack d) s t asks none same h =
    let nothing = not_there c d (event.Ack d) s t asks none same h in
    (nothing.0, ap (λ (v : NodeState). v.intakes c.0) nothing.1 ∙ none)
gone_is_silent c (order.Nack d) s t asks none same (m, h, shut) =
    let nothing = not_there c d (event.Nack d) s m asks none same h in
    (nothing.0, none_unheld c d m t (ap (λ (v : NodeState). v.intakes c.0) nothing.1 ∙ none) shut)
gone_is_silent c (order.Gone d) s t asks none same (m, h, shut) =
    let nothing = not_there c d (event.Gone d) s m asks none same h in (
      nothing.0,
      ap (λ (v : NodeState). v.intakes c.0) shut
          ∙ none_shut d.0 c.0 m.intakes (ap (λ (v : NodeState). v.intakes c.0) nothing.1 ∙ none),
    )
gone_is_silent c o s t asks none same h = absurd same

-- nothing is kept of a connection that isn't there
gone_kept_at : (d c : ℕ) (piece : List ℕ) (f : Intakes) → f c ≡ None → (b : Bool) → nat_eq c d ≡ b →
    cond b (option_map (fed_intake piece) (f d)) (f d) ≡ f d
gone_kept_at d c piece f none true e =
    let here : f d ≡ None = ap f (sym (eqb-true c d e)) ∙ none in
    subst (λ o. option_map (fed_intake piece) o ≡ o) (sym here) refl
gone_kept_at d c piece f none false e = refl

pub gone_keeps_nothing : NodeGoneKeepsNothing
gone_keeps_nothing c piece s none =
    ap (λ f. with_node_intakes f s) (fun_ext (λ d. gone_kept_at d c.0 piece s.intakes none (nat_eq c.0 d) refl))
