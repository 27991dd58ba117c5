-- A host that is no neighbour becomes one, or is turned away.
use Rattle.std.proofs.Common.{◌≡◌, ◌≤◌, ◌<◌, inl, inr, ◌⊎◌, ℕ, true, false, Option, None, Some, IfSome, IfNone, Result, Ok, Err, OnOk, List, [], ◌∷◌, ◌++◌, length, refl, sym, ap, subst, ◌∙◌}
use Rattle.std.proofs.lemmas.Option.{IfSome_then}
use Rattle.dm_base.specs.declared.node.Node.{Node}
use Rattle.dm_history.specs.History.{new_peer}
use Rattle.dm_machine.specs.declared.connection.Conn.{Conn}
use Rattle.dm_machine.specs.declared.state_name.State.TheVariants.{Closed}
use Rattle.dm_peer.specs.Acts.{Moved, acts}
use Rattle.dm_peer.specs.Events.{Arrived}
use Rattle.dm_peer.specs.declared.actions.Action.{Action}
use Rattle.dm_peer.specs.declared.config.Config.{Config}
use Rattle.dm_peer.specs.declared.fault.ConfigFault.{ConfigFault}
use Rattle.dm_peer.specs.declared.peer.Peer.{Peer}
use Rattle.dm_node.specs.Calling.{Caller, caller_of, answer_to}
use Rattle.dm_node.specs.Holding.{peer_at, holds, holds_it, holds_at, AreApart}
use Rattle.dm_node.specs.Policies.{Policy, MakesFor, MakesNoneFor}
use Rattle.dm_node.specs.Strangers.{present, IsPermitted, IsForbidden, Joins, StaysOut, NodeMoves, TellsConcerned, NodeIsTold}
use Rattle.dm_node.specs.Telling.{Concerns, IsAddressed, PeerIsTold, told_of}
use Rattle.dm_node.specs.declared.events.NodeEvent.{NodeEvent}
use Rattle.dm_node.specs.declared.events.NodeEvent.TheVariants as event
use Rattle.dm_node.proofs.Basics.{one_inside, two_truths}
use Rattle.dm_node.proofs.Places.{grown_here, grown_else, grown_cases, longer}

pub is_taken : (ps qs : List (Option Peer)) (i : ℕ) (c : Conn) (octets : List ℕ) (actions : List Action) (k : Config)
    (y : Peer) → i ≡ length ps → qs ≡ ps ++ Some y ∷ [] → (y.standing.core.state ≡ Closed → ⊥) →
    acts (new_peer k k.first_id) (Arrived c octets) ≡ Moved actions y → Joins ps qs i c octets actions k
is_taken ps qs i c octets actions k y here is stays acted =
    let x : Peer = new_peer k k.first_id in record {
      number = here;
      told = record {
        before = x;
        after = y;
        was = ap (peer_at (ps ++ Some x ∷ [])) here ∙ grown_here ps (Some x);
        acts = acted;
        is = ap (λ l. peer_at l i) is ∙ ap (peer_at (ps ++ Some y ∷ [])) here ∙ grown_here ps (Some y);
        others = λ j un.
            let else : j ≡ length ps → ⊥ = λ q. un (q ∙ sym here) in
            ap (λ l. peer_at l j) is ∙ grown_else ps (Some y) j else ∙ sym (grown_else ps (Some x) j else);
        count = ap length is ∙ longer ps (Some y) ∙ sym (longer ps (Some x));
      };
      stays = stays;
    }

-- one more, of whose connections nobody holds any
pub apart_admitted : (ps : List (Option Peer)) (y : Peer) →
    ((c : Conn) (j : ℕ) → holds c y ≡ true → holds_at ps c j ≡ false) → AreApart ps → AreApart (ps ++ Some y ∷ [])
apart_admitted ps y free apart = record {
  one = λ i j c.
      grown_cases (λ o. holds_it c o ≡ true → holds_at (ps ++ Some y ∷ []) c j ≡ true → i ≡ j) ps (Some y) i
      (λ last h. grown_cases (λ o. holds_it c o ≡ true → i ≡ j) ps (Some y) j (λ also g. last ∙ sym also)
      (λ g. absurd (two_truths (holds_at ps c j) g (free c j h))))
      (λ h. grown_cases (λ o. holds_it c o ≡ true → i ≡ j) ps (Some y) j
      (λ also g. absurd (two_truths (holds_at ps c i) h (free c i g))) (apart.one i j c h));
}

pub if_none : {A : Type 0} (P Q : Type 0) (o : Option A) → (P → Q) → IfNone o P → IfNone o Q
if_none P Q None f h = f h
if_none P Q (Some a) f h = h

-- what is said of an option that is known
pub at_some : {A : Type 0} (P : A → Type 0) (o : Option A) (a : A) → o ≡ Some a → IfSome o P → P a
at_some P o a is h = subst (λ x. IfSome x P) is h

pub at_none : {A : Type 0} (P : Type 0) (o : Option A) → o ≡ None → IfNone o P → P
at_none P o is h = subst (λ x. IfNone x P) is h

-- what two clauses of a call say, together
pub both_done : {A E : Type 0} {P Q R : Type 0} (r : Result A E) → (P → Q → R) → OnOk r P → OnOk r Q → OnOk r R
both_done (Ok a) f h g = f h g
both_done (Err e) f h g = tt

-- a configuration that was made fits
pub fits_where_made : (o : Option ConfigFault) (k : Config) (r : Result Config ConfigFault) → r ≡ Ok k →
    ((f : ConfigFault) → o ≡ Some f → r ≡ Err f) → o ≡ None
fits_where_made None k r is refuses = refl
fits_where_made (Some f) k r is refuses =
    let clash : ◌≡◌ {A = Result Config ConfigFault} (Ok k) (Err f) = sym is ∙ refuses f refl in absurd (cc)

-- what is made for who calls is permitted, wherever the octets concern nobody
abbrev pub PermitsAnywhere : Policy → List (Option Peer) → List ℕ → Config → Type 0
PermitsAnywhere policy ps octets k =
    (c : Conn) → ((i : ℕ) → IsAddressed policy ps c octets i → ⊥) → IsPermitted policy ps c octets k

pub permits : (policy : Policy) (ps : List (Option Peer)) (octets : List ℕ) (call : Caller) (o : Option Config) →
    caller_of octets ≡ Some call → present ps < policy.most → IfSome o (MakesFor policy call.1) →
    IfSome o (PermitsAnywhere policy ps octets)
permits policy ps octets call o calls room h =
    IfSome_then o h (λ k makes c nobody. record {
      unknown = record { call = call; calls = calls; named = sym makes.made.peer; nobody = nobody };
      made = subst (λ x. MakesFor policy x k) (sym makes.made.peer) makes;
      room = room;
    })

-- and where none is made for it nobody is
pub forbids : (policy : Policy) (ps : List (Option Peer)) (octets : List ℕ) (call : Caller) →
    caller_of octets ≡ Some call → (policy.most ≤ present ps) ⊎ MakesNoneFor policy call.1 → (c : Conn) →
    IsForbidden policy ps c octets
forbids policy ps octets call calls none c host h =
    subst (λ x. (policy.most ≤ present ps) ⊎ MakesNoneFor policy x)
    (ap (λ (x : Caller). x.1) (one_inside (caller_of octets) call h.call calls h.calls) ∙ h.named) none

pub forbids_none : (policy : Policy) (ps : List (Option Peer)) (octets : List ℕ) → caller_of octets ≡ None →
    (c : Conn) → IsForbidden policy ps c octets
forbids_none policy ps octets calls c host h = let never = sym h.calls ∙ calls in absurd (cc)

-- what is done at octets that concern nobody
pub welcomed : (policy : Policy) (c : Conn) (octets : List ℕ) (n : Node) (ps qs : List (Option Peer)) (who : Option ℕ)
    (actions : List Action) (k : Config) → ((i : ℕ) → IsAddressed policy ps c octets i → ⊥) →
    IsPermitted policy ps c octets k → IfSome who (λ i. Joins ps qs i c octets actions k) →
    IfNone who (StaysOut ps qs c octets actions k) → NodeMoves policy c octets n ps who actions qs
welcomed policy c octets n ps qs (Some i) actions k nobody permitted joins out = inr (k, permitted, joins)
welcomed policy c octets n ps qs None actions k nobody permitted joins out = (nobody, inl (k, permitted, out))

pub turned_off : (policy : Policy) (c : Conn) (octets : List ℕ) (n : Node) (ps : List (Option Peer)) (who : Option ℕ)
    (actions : List Action) → ((i : ℕ) → IsAddressed policy ps c octets i → ⊥) → IsForbidden policy ps c octets →
    who ≡ None → actions ≡ answer_to n c (caller_of octets) → NodeMoves policy c octets n ps who actions ps
turned_off policy c octets n ps None actions nobody forbidden is answer = (nobody, inr (answer, refl, forbidden))
turned_off policy c octets n ps (Some i) actions nobody forbidden is answer = absurd (cc)

-- the one that the event concerns is told it
pub told_so : (policy : Policy) (e : NodeEvent) (n : Node) (ps qs : List (Option Peer)) (i : ℕ) (who : Option ℕ)
    (actions : List Action) → Concerns policy ps e i → who ≡ Some i → PeerIsTold ps qs i (told_of e) actions →
    NodeIsTold policy e n ps who actions qs
told_so policy (event.Arrived c octets) n ps qs i who actions concerns is told =
    subst (λ w. NodeMoves policy c octets.now n ps w actions qs) (sym is) (inl (concerns, told))
told_so policy e n ps qs i who actions concerns is told =
    subst (λ w. TellsConcerned policy e ps w actions qs) (sym is) (concerns, told)

-- an event that is no octets, and concerns nobody
pub nothing_told : (policy : Policy) (e : NodeEvent) (n : Node) (ps : List (Option Peer)) (actions : List Action) →
    actions ≡ [] → ((c : Conn) (octets : _) → e ≡ event.Arrived c octets → ⊥) →
    ((i : ℕ) → Concerns policy ps e i → ⊥) → NodeIsTold policy e n ps None actions ps
nothing_told policy (event.Arrived c octets) n ps actions none other nobody = absurd (other c octets refl)
nothing_told policy e n ps actions none other nobody = (nobody, none, refl)
