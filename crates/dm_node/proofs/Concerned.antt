-- An event concerns one neighbour at most.
use Rattle.std.proofs.Common.{◌≡◌, inl, inr, ℕ, Option, None, Some, IfSome, List, sym, ap, ◌∙◌}
use Rattle.dm_base.specs.Before.{lower}
use Rattle.dm_machine.specs.declared.connection.Conn.{Conn}
use Rattle.dm_peer.specs.declared.peer.Peer.{Peer}
use Rattle.dm_node.specs.Calling.{Caller, caller_of}
use Rattle.dm_node.specs.Holding.{holds_at}
use Rattle.dm_node.specs.Neighbourhoods.{IsNeighbourhood}
use Rattle.dm_node.specs.OneConcerned.{OneIsConcerned}
use Rattle.dm_node.specs.Policies.{Policy}
use Rattle.dm_node.specs.Telling.{IsCallOf, IsPorter, IsFirstFor, IsAddressed, Concerns}
use Rattle.dm_node.specs.declared.events.NodeEvent.{NodeEvent}
use Rattle.dm_node.specs.declared.events.NodeEvent.TheVariants as event
use Rattle.dm_node.proofs.Basics.{one_some, one_inside, two_truths}

-- octets on a connection concern one
one_called : (ps : List (Option Peer)) (s : List ℕ) (i j : ℕ) → IsNeighbourhood ps → IsCallOf ps s i → IsCallOf ps s j →
    i ≡ j
one_called ps s i j n a b =
    n.unlike.one i j (lower a.0.1) a.2
    (b.2 ∙ ap (λ (call : Caller). Some (lower call.1)) (one_inside (caller_of s) b.0 a.0 b.1 a.1))

pub one_addressed : (policy : Policy) (ps : List (Option Peer)) (c : Conn) (s : List ℕ) (i j : ℕ) → IsNeighbourhood ps →
    IsAddressed policy ps c s i → IsAddressed policy ps c s j → i ≡ j
one_addressed policy ps c s i j n (inl a) (inl b) = n.apart.one i j c a b
one_addressed policy ps c s i j n (inl a) (inr b) = absurd (two_truths (holds_at ps c i) a (b.0 i))
one_addressed policy ps c s i j n (inr a) (inl b) = absurd (two_truths (holds_at ps c j) b (a.0 j))
one_addressed policy ps c s i j n (inr (free, inl a)) (inr (also, inl b)) = one_called ps s i j n a b
one_addressed policy ps c s i j n (inr (free, inl a)) (inr (also, inr b)) = absurd (b.0 i a)
one_addressed policy ps c s i j n (inr (free, inr a)) (inr (also, inl b)) = absurd (a.0 j b)
one_addressed policy ps c s i j n (inr (free, inr a)) (inr (also, inr b)) = one_some i j (sym a.1.0 ∙ b.1.0)

pub one_is_concerned : OneIsConcerned
one_is_concerned policy ps (event.Ack c) i j n a b = n.apart.one i j c a b
one_is_concerned policy ps (event.Nack c) i j n a b = n.apart.one i j c a b
one_is_concerned policy ps (event.Arrived c octets) i j n a b = one_addressed policy ps c octets.now i j n a b
one_is_concerned policy ps (event.Gone c) i j n a b = n.apart.one i j c a b
one_is_concerned policy ps e i j n a b = sym a ∙ b

-- where no host calls and there is no porter first octets are for nobody
pub for_nobody : (policy : Policy) (ps : List (Option Peer)) (s : List ℕ) → ((i : ℕ) → IsCallOf ps s i → ⊥) →
    ((i : ℕ) → IsPorter policy ps i → ⊥) → (i : ℕ) → IsFirstFor policy ps s i → ⊥
for_nobody policy ps s uncalled none i (inl call) = uncalled i call
for_nobody policy ps s uncalled none i (inr h) = none i h.1

-- whom the event concerns is the one that was found
pub one_there : (policy : Policy) (ps : List (Option Peer)) (e : NodeEvent) (o : Option ℕ) (i k : ℕ) →
    IsNeighbourhood ps → o ≡ Some k → IfSome o (Concerns policy ps e) → Concerns policy ps e i → i ≡ k
one_there policy ps e None i k n is a b = absurd (cc)
one_there policy ps e (Some j) i k n is a b = one_is_concerned policy ps e i j n b a ∙ one_some j k is
