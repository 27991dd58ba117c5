-- What the rules say of an event, whatever memory there is.
use Rattle.std.proofs.Common.{◌≡◌, ◌⊎◌, inl, inr, ℕ, true, Bool, if◌then◌else◌, Option, None, Some, option_map, Result, Ok, Err, IfSome, IfErr, List, refl, sym, ap, ◌∙◌, subst}
use Rattle.std.specs.Prelude.{⊤}
use Rattle.dm_machine.specs.declared.connection.Conn.{Conn}
use Rattle.dm_machine.specs.declared.state_name.State.{State}
use Rattle.dm_machine.specs.declared.state_name.State.TheVariants as state
use Rattle.dm_machine.specs.Moves.{is_open}
use Rattle.dm_node.specs.Declining.{IsRuledOut, IsDirected, IsByRule, IsDeclinedHere, GoesByRule, GoesByAllRules, EventTakesMemory}
use Rattle.dm_node.specs.Holding.{peer_at}
use Rattle.dm_node.specs.Neighbourhoods.{IsNeighbourhood}
use Rattle.dm_node.specs.NodeHeld.{AreKept}
use Rattle.dm_node.specs.NodeOrders.{OrderGoesByRules}
use Rattle.dm_node.specs.Policies.{Policy, no_strangers}
use Rattle.dm_node.specs.Telling.{Concerns, IsRefusedHere, IsStrangeCer, told_of}
use Rattle.dm_node.specs.declared.events.NodeEvent.{NodeEvent}
use Rattle.dm_node.specs.declared.events.NodeEvent.TheVariants as event
use Rattle.dm_node.specs.declared.fault.OrderFault.{OrderFault}
use Rattle.dm_node.specs.declared.fault.OrderFault.TheVariants as fault
use Rattle.dm_peer.specs.declared.fault.PeerFault.{PeerFault}
use Rattle.dm_peer.specs.declared.fault.PeerFault.TheVariants.{NoMemory, NotOpen, BadSubmit}
use Rattle.dm_peer.specs.declared.peer.Peer.{Peer}
use Rattle.dm_peer.specs.Acts.{Outcome, Moved, Refused, acts, can_submit}
use Rattle.dm_peer.specs.Events.{PeerEvent, Start, Stop, Submit}
use Rattle.dm_peer.specs.Kept.{IsKept}
use Rattle.dm_peer.specs.Refusing.{RefusesByRule, fault_at, refusal_of, start_refusal}
use Rattle.dm_wire.specs.Whole.{message_in}
use Rattle.dm_node.proofs.Concerned.{one_there}
use Rattle.dm_node.proofs.Declined.{rule_of, wanted}
use Rattle.dm_node.proofs.Basics.{one_some, no_some, not_done, same_fault}

-- no rule refuses for want of memory
submits : (is can : Bool) → (if is then (if can then None else Some BadSubmit) else Some NotOpen) ≡ Some NoMemory → ⊥
submits true true h = absurd (cc h)
submits is can h = absurd (cc h)

never_of_memory : (s : State) (e : PeerEvent) → refusal_of s e ≡ Some NoMemory → ⊥
never_of_memory state.Closed (Start c) h = absurd (cc h)
never_of_memory s (Start c) h = absurd (cc h)
never_of_memory s (Stop cause) h = submits (is_open s) true h
never_of_memory s (Submit octets) h = submits (is_open s) (can_submit (message_in octets)) h
never_of_memory s e h = absurd (cc h)

-- where memory was wanted some is taken
pub event_wants : RefusesByRule → (policy : Policy) (ps : List (Option Peer)) (e : NodeEvent) (f : OrderFault) →
    AreKept ps → (IsStrangeCer e → ⊥) → f ≡ fault.Peer NoMemory → IsRefusedHere policy ps e f →
    EventTakesMemory policy ps e
event_wants rule policy ps e f kept calm is h =
    elim (subst (IsRefusedHere policy ps e) is h) [
      | inl (i, at, by) ↦ (
        i,
        by.peer,
        at,
        by.at,
        wanted rule by.peer (told_of e) NoMemory
            (never_of_memory by.peer.standing.core.state (told_of e)) (kept i by.peer by.at) by.refused,
      )
      | inr strange ↦ absurd (calm strange.2)
    ]

-- the neighbour that is told it refuses by its rules
pub one_goes : {A : Type 0} (policy : Policy) (ps : List (Option Peer)) (e : NodeEvent) (who : Option ℕ) (k : ℕ)
    (r : Result A OrderFault) → IsNeighbourhood ps → who ≡ Some k → IfSome who (Concerns policy ps e) →
    ((f : PeerFault) → IsRuledOut ps k (told_of e) f → r ≡ Err (fault.Peer f)) → IfErr r (IsByRule policy ps e) →
    GoesByRule policy ps e r
one_goes policy ps e who k r apart is concerned refuses ruled =
    record {
      refuses = λ i f directed there out.
          refuses f
          (subst (λ j. IsRuledOut ps j (told_of e) f) (one_there policy ps e who i k apart is concerned there) out);
      ruled = ruled;
    }

-- and where there is none memory alone may be wanted
pub none_goes : {A : Type 0} (S : Type 0) (policy : Policy) (ps : List (Option Peer)) (e : NodeEvent) (r : Result A OrderFault) →
    ((i : ℕ) → Concerns policy ps e i → ⊥) → IfErr r (λ f. (f ≡ fault.Peer NoMemory) × S) → GoesByRule policy ps e r
none_goes S policy ps e r none memory =
    record { refuses = λ i f directed there out. absurd (none i there); ruled = by r memory } where
      by : {B : Type 0} (r : Result B OrderFault) → IfErr r (λ f. (f ≡ fault.Peer NoMemory) × S) → IfErr r (IsByRule policy ps e)
      by (Ok a) h = tt
      by (Err f) h = subst (IsByRule policy ps e) (sym h.0) (inl refl)

-- A Start.

abbrev refused_with : Option OrderFault → Result ⊤ OrderFault
refused_with None = Ok tt
refused_with (Some f) = Err f

module _ (ps : List (Option Peer)) (n : ℕ) (c : Conn) (p : Peer) (at : peer_at ps n ≡ Some p) where
  directed : IsDirected ps (event.Start n c)
  directed fault.NoNeighbour none = no_some p (sym none ∙ at)
  directed (fault.Peer f) h = h

  rule_at : (i : ℕ) (g : PeerFault) → n ≡ i → IsRuledOut ps i (Start c) g →
      start_refusal p.standing.core.state ≡ Some g
  rule_at i g is out = rule_of ps n p at (Start c) g (subst (λ j. IsRuledOut ps j (Start c) g) (sym is) out)

  ruled_at : (o : Option PeerFault) → start_refusal p.standing.core.state ≡ o →
      IfErr (refused_with (option_map fault.Peer o)) (IsByRule no_strangers ps (event.Start n c))
  ruled_at None is = tt
  ruled_at (Some f) is = inr (n, refl, record { peer = p; at = at; rule = is })

  pub start_goes : (o : Option PeerFault) → start_refusal p.standing.core.state ≡ o →
      GoesByAllRules no_strangers ps (event.Start n c) (refused_with (option_map fault.Peer o))
  start_goes o is =
      record {
        misdirected = λ g wrong. absurd (directed g wrong);
        by_rule = record {
          refuses = λ i g straight concerned out.
              ap (λ r. refused_with (option_map fault.Peer r)) (sym is ∙ rule_at i g concerned out);
          ruled = ruled_at o is;
        };
      }

  refused_of : (o : Outcome) (f : PeerFault) → fault_at o ≡ Some f → o ≡ Refused f
  refused_of (Moved actions q) f e = absurd (cc e)
  refused_of (Refused g) f e = ap Refused (one_some g f e)

  pub start_declined : RefusesByRule → IsKept p → (f : PeerFault) → start_refusal p.standing.core.state ≡ Some f →
      IsDeclinedHere no_strangers ps (event.Start n c) (fault.Peer f)
  start_declined rule kept f is = (
    n,
    refl,
    record {
      peer = p;
      at = at;
      refused = refused_of (acts p (Start c)) f (rule p (Start c) kept.settled.shaped ∙ is);
    },
  )

-- Rules that a call handed on keeps.

pub done_goes : {A B : Type 0} (policy : Policy) (ps : List (Option Peer)) (e : NodeEvent) (a : A) (b : B)
    (r : Result B OrderFault) → r ≡ Ok b → IsDirected ps e → GoesByRule policy ps e r → GoesByAllRules policy ps e (Ok a)
done_goes policy ps e a b r is directed rules =
    record {
      misdirected = λ f wrong. absurd (directed f wrong);
      by_rule = record {
        refuses = λ i f d concerned out. not_done b (fault.Peer f) r is (rules.refuses i f d concerned out);
        ruled = tt;
      };
    }

pub failed_goes : {B : Type 0} (A : Type 0) (policy : Policy) (ps : List (Option Peer)) (e : NodeEvent) (f : OrderFault)
    (r : Result B OrderFault) → r ≡ Err f → IsDirected ps e → GoesByRule policy ps e r →
    GoesByAllRules {A = A} policy ps e (Err f)
failed_goes A policy ps e f r is directed rules =
    record {
      misdirected = λ g wrong. absurd (directed g wrong);
      by_rule = record {
        refuses = λ i g d concerned out. ap Err (same_fault f (fault.Peer g) r is (rules.refuses i g d concerned out));
        ruled = subst (λ x. IfErr x (IsByRule policy ps e)) is rules.ruled;
      };
    }

-- so an order goes by the rules of the event that it tells, where it is refused as that is
pub order_goes : {B : Type 0} (e : NodeEvent) (ps : List (Option Peer)) (r : Result B OrderFault)
    (q : Result ⊤ OrderFault) → ((f : OrderFault) → r ≡ Err f → q ≡ Err f) → IfErr q (λ f. (f ≡ fault.Peer NoMemory)
    ⊎ ((d : NodeEvent) × (Some e ≡ Some d) × IsByRule no_strangers ps d f)) →
    GoesByAllRules no_strangers ps e r → OrderGoesByRules (Some e) ps q
order_goes e ps r q told ruled rules =
    record {
      misdirected = λ d f is wrong. told f ((by d is).misdirected f wrong);
      refuses = λ d i f is directed concerned out.
          told (fault.Peer f) ((by d is).by_rule.refuses i f directed concerned out);
      ruled = ruled;
    }
  where
    by : (d : NodeEvent) → Some e ≡ Some d → GoesByAllRules no_strangers ps d r
    by d is = subst (λ x. GoesByAllRules no_strangers ps x r) (one_some e d is) rules
