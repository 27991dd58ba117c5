-- When the neighbour that an event concerns refuses it, and when memory is wanted for it (RFC 6733, 5.6).
use Rattle.std.specs.Prelude.{◌≡◌, ◌⊎◌, ℕ, Option, Some, Result, Err, IfErr, IsTrue, List}
use Rattle.dm_peer.specs.Acts.{Refused, acts, wants_memory}
use Rattle.dm_peer.specs.declared.fault.PeerFault.{PeerFault}
use Rattle.dm_peer.specs.declared.fault.PeerFault.TheVariants.{NoMemory}
use Rattle.dm_peer.specs.declared.peer.Peer.{Peer}
use Rattle.dm_peer.specs.Events.{PeerEvent}
use Rattle.dm_peer.specs.Refusing.{refusal_of}
use Rattle.dm_node.specs.declared.events.NodeEvent.{NodeEvent}
use Rattle.dm_node.specs.declared.fault.OrderFault.{OrderFault}
use Rattle.dm_node.specs.declared.fault.OrderFault.TheVariants as fault
use Rattle.dm_node.specs.Holding.{peer_at}
use Rattle.dm_node.specs.Policies.{Policy}
use Rattle.dm_node.specs.Telling.{told_of, Concerns, IsMisdirected}

-- the rules of the neighbour of this number refuse the event
pub record IsRuledOut (ps : List (Option Peer)) (i : ℕ) (e : PeerEvent) (f : PeerFault) : Type 0 where
  pub peer : Peer
  pub at : peer_at ps i ≡ Some peer
  pub rule : refusal_of peer.standing.core.state e ≡ Some f

-- the neighbour of this number refuses the event whatever memory there is
pub record IsDeclined (ps : List (Option Peer)) (i : ℕ) (e : PeerEvent) (f : PeerFault) : Type 0 where
  pub peer : Peer
  pub at : peer_at ps i ≡ Some peer
  pub refused : acts peer e ≡ Refused f

-- nothing is wrong with whom the event names
abbrev pub IsDirected : List (Option Peer) → NodeEvent → Type 0
IsDirected ps e = (f : OrderFault) → IsMisdirected ps e f → ⊥

-- but for want of memory the rules alone refuse: the event is misdirected, or the neighbour that it concerns refuses
abbrev pub IsByRule : Policy → List (Option Peer) → NodeEvent → OrderFault → Type 0
IsByRule policy ps e (fault.Peer f) =
    (f ≡ NoMemory) ⊎ ((i : ℕ) × Concerns policy ps e i × IsRuledOut ps i (told_of e) f)
IsByRule policy ps e f = IsMisdirected ps e f

-- so it is, and want of memory is no reason
abbrev pub IsDeclinedHere : Policy → List (Option Peer) → NodeEvent → OrderFault → Type 0
IsDeclinedHere policy ps e (fault.Peer f) = (i : ℕ) × Concerns policy ps e i × IsDeclined ps i (told_of e) f
IsDeclinedHere policy ps e f = IsMisdirected ps e f

-- but for want of memory an event comes to what the rules say: where it isn't misdirected and they refuse it, it is
-- refused so, and nothing else is
pub record GoesByRule {A : Type 0} (policy : Policy) (ps : List (Option Peer)) (e : NodeEvent)
    (result : Result A OrderFault) : Type 0 where
  pub refuses : (i : ℕ) (f : PeerFault) → IsDirected ps e → Concerns policy ps e i → IsRuledOut ps i (told_of e) f
      → result ≡ Err (fault.Peer f)
  pub ruled : IfErr result (IsByRule policy ps e)

-- and where it is misdirected it is refused as such
pub record GoesByAllRules {A : Type 0} (policy : Policy) (ps : List (Option Peer)) (e : NodeEvent)
    (result : Result A OrderFault) : Type 0 where
  pub misdirected : (f : OrderFault) → IsMisdirected ps e f → result ≡ Err f
  pub by_rule : GoesByRule policy ps e result

-- the neighbour that the event concerns sends something at it, or hands something up
abbrev pub EventTakesMemory : Policy → List (Option Peer) → NodeEvent → Type 0
EventTakesMemory policy ps e =
    (i : ℕ) × (p : Peer) × Concerns policy ps e i × (peer_at ps i ≡ Some p) × IsTrue (wants_memory (acts p (told_of e)))
