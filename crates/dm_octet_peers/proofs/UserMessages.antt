-- Peers over octets carry messages of applications.
use Rattle.std.proofs.Common.{◌≡◌, ℕ, true, false, not, List, [], refl, subst}
use Rattle.dm_machine.specs.declared.connection.Conn.{Conn}
use Rattle.dm_machine.specs.Connection.{hold_of}
use Rattle.dm_machine.specs.Changes.{EachConnectionChangesAsAllowed}
use Rattle.dm_machine.specs.EachStep.{EachStepHolds}
use Rattle.dm_machine.specs.Forms.{EachShapeIsAForm}
use Rattle.dm_machine.specs.Upward.{HandsUpWhereOpen, HandsUpEach}
use Rattle.dm_peer.specs.declared.peer.Peer.{Peer}
use Rattle.dm_peer.specs.declared.actions.Action as declared_action
use Rattle.dm_peer.specs.Acts.{Outcome, Moved, Refused, acts}
use Rattle.dm_two_peers.specs.Machine.{conn}
use Rattle.dm_two_peers.specs.Peers.{Event, SubmitEvent, ArrivedEvent, Action, ActsBy}
use Rattle.dm_two_peers.specs.Delivery.{ups_of, sends_all, HandsUpHeard}
use Rattle.dm_octet_peers.specs.Octets.{of_event, as_actions, as_reply}
use Rattle.dm_octet_peers.specs.Carrying.{is_app, OctetsCarry}
use Rattle.dm_octet_peers.proofs.Submitting.{octets_submit}
use Rattle.dm_octet_peers.proofs.Walking.{is_submit_event}
use Rattle.dm_octet_peers.proofs.Others.{SendsNone, KeepsWaiting, acts_send_none, acts_wait_well}
use Rattle.dm_octet_peers.proofs.Upward.{RaisesNone, is_arrival, acts_raise_none}
use Rattle.dm_octet_peers.proofs.Raising.{RaisesAt, arrival_raises}

-- of an outcome as a reply
record IsReply (o : Outcome) (actions : List (Action (List ℕ))) (next : Peer) : Type 0 where
  pub done : List declared_action.Action
  pub moved : o ≡ Moved done next
  pub same : as_actions done ≡ actions

of_reply : (o : Outcome) (actions : List (Action (List ℕ))) (next : Peer) → as_reply o ≡ ActsBy actions next →
    IsReply o actions next
of_reply (Moved done q) actions next is = record { done = done; moved = cc; same = cc }
of_reply (Refused f) actions next is = cc

no_submit : (e : Event (List ℕ)) → ((s : List ℕ) → e ≡ SubmitEvent s → ⊥) → is_submit_event (of_event e) ≡ false
no_submit (SubmitEvent s) other = absurd (other s refl)
no_submit _ other = refl

no_arrival : (e : Event (List ℕ)) → ((c : Conn) (s : List ℕ) → e ≡ ArrivedEvent c s → ⊥) → is_arrival (of_event e) ≡ false
no_arrival (ArrivedEvent c s) other = absurd (other c s refl)
no_arrival _ other = refl

pub octets_carry : EachShapeIsAForm → EachStepHolds → EachConnectionChangesAsAllowed → HandsUpWhereOpen → HandsUpEach →
    OctetsCarry
octets_carry form steps changes ups each =
    record {
      submits = λ p next s actions it is. octets_submit form p next s actions it.shaped is;
      others = λ p next e actions it other is.
          let r = of_reply (acts p (of_event e)) actions next is in
          subst (λ (l : List (Action (List ℕ))). sends_all (λ x. not (is_app x)) l ≡ true) r.same
          (subst SendsNone r.moved
          (acts_send_none steps p (of_event e) it.shaped it.fit (no_submit e other)));
      hears = λ p next c s actions it is.
          let r = of_reply (acts p (of_event (ArrivedEvent (conn c) s))) actions next is in
          subst (λ (l : List (Action (List ℕ))). HandsUpHeard is_app (hold_of p.standing.core (conn c))
          (hold_of next.standing.core (conn c)) s (ups_of l)) r.same
          (subst (λ o. RaisesAt p c s o) r.moved
          (arrival_raises changes ups each p it.shaped c s));
      silent = λ p next e actions it other is.
          let r = of_reply (acts p (of_event e)) actions next is in
          subst (λ (l : List (Action (List ℕ))). ups_of l ≡ []) r.same
          (subst RaisesNone r.moved
          (acts_raise_none ups p (of_event e) it.shaped (no_arrival e other)));
      keeps = λ p next e actions it is.
          let r = of_reply (acts p (of_event e)) actions next is in
          subst KeepsWaiting r.moved (acts_wait_well steps p (of_event e) it.shaped it.fit);
      resets = λ p it. refl;
    }
