-- What the rules of the neighbour that is concerned say of it.
use Rattle.std.proofs.Common.{◌≡◌, ◌⊎◌, inl, inr, ℕ, Option, Some, List, IsTrue, sym, ap, subst, ◌∙◌}
use Rattle.dm_peer.specs.declared.fault.PeerFault.{PeerFault}
use Rattle.dm_peer.specs.declared.fault.PeerFault.TheVariants.{NoMemory}
use Rattle.dm_peer.specs.declared.peer.Peer.{Peer}
use Rattle.dm_peer.specs.Events.{PeerEvent}
use Rattle.dm_peer.specs.Acts.{acts, wants_memory, IsRefused}
use Rattle.dm_peer.specs.Kept.{IsKept}
use Rattle.dm_peer.specs.Refusing.{RefusesByRule, fault_at, refusal_of}
use Rattle.dm_node.specs.Declining.{IsRuledOut}
use Rattle.dm_node.specs.Holding.{peer_at}
use Rattle.dm_node.proofs.Basics.{one_some}

-- the peer of this number is x
module _ (ps : List (Option Peer)) (i : ℕ) (x : Peer) (at : peer_at ps i ≡ Some x) (e : PeerEvent) where
  pub ruled_here : (f : PeerFault) → (f ≡ NoMemory) ⊎ (refusal_of x.standing.core.state e ≡ Some f) →
      (f ≡ NoMemory) ⊎ IsRuledOut ps i e f
  ruled_here f (inl memory) = inl memory
  ruled_here f (inr rule) = inr (record { peer = x; at = at; rule = rule })

  pub rule_of : (f : PeerFault) → IsRuledOut ps i e f → refusal_of x.standing.core.state e ≡ Some f
  rule_of f out =
      subst (λ (p : Peer). refusal_of p.standing.core.state e ≡ Some f) (one_some out.peer x (sym out.at ∙ at))
      out.rule

-- what isn't refused by rule wants memory where it is refused
pub wanted : RefusesByRule → (p : Peer) (e : PeerEvent) (f : PeerFault) →
    (refusal_of p.standing.core.state e ≡ Some f → ⊥) → IsKept p → IsRefused (acts p e) f →
    IsTrue (wants_memory (acts p e))
wanted rule p e f never kept (inl wants) = wants.1
wanted rule p e f never kept (inr is) = absurd (never (sym (rule p e kept.settled.shaped) ∙ ap fault_at is))
