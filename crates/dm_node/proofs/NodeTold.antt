-- One event of a node: what is held behind it, what it closes, and why it is refused.
use Rattle.std.proofs.Common.{◌≡◌, inl, inr, ◌⊎◌, ℕ, true, true≢false, Option, None, Some, List, sym, ap, ◌∙◌, subst}
use Rattle.dm_base.specs.declared.node.Node.{Node}
use Rattle.dm_machine.specs.declared.connection.Conn.{Conn}
use Rattle.dm_node.specs.Declining.{IsDeclinedHere}
use Rattle.dm_node.specs.Holding.{AreApart}
use Rattle.dm_node.specs.Policies.{Policy}
use Rattle.dm_node.specs.Strangers.{NodeIsTold}
use Rattle.dm_node.specs.Telling.{Concerns, IsFree, IsRefusedBy, IsRefusedHere, told_of}
use Rattle.dm_node.specs.declared.events.NodeEvent.{NodeEvent}
use Rattle.dm_node.specs.declared.events.NodeEvent.TheVariants as event
use Rattle.dm_node.specs.declared.fault.OrderFault.{OrderFault}
use Rattle.dm_node.specs.declared.fault.OrderFault.TheVariants as fault
use Rattle.dm_peer.specs.declared.actions.Action.{Action}
use Rattle.dm_peer.specs.declared.fault.PeerFault.{PeerFault}
use Rattle.dm_peer.specs.declared.fault.PeerFault.TheVariants.{NoMemory}
use Rattle.dm_peer.specs.declared.peer.Peer.{Peer}
use Rattle.dm_peer.specs.Events.{PeerEvent, Arrived}
use Rattle.dm_peer.specs.Holding.{OthersStayUnheld, ClosedIsUnheld}
use Rattle.dm_peer.specs.Refusing.{RefusesByRule}
use Rattle.dm_slots.specs.Intakes.{Intakes, actions_close}
use Rattle.dm_slots.specs.Naming.{NamesThere}
use Rattle.dm_node.specs.NodeHeld.{AllHeldAreThere, AreKept}
use Rattle.dm_node.specs.NodeStates.{TakesMemoryAt}
use Rattle.dm_node.proofs.Closing.{ClosesItsOwn}
use Rattle.dm_node.proofs.Declined.{wanted}
use Rattle.dm_node.proofs.Newcomers.{PeerLaws, event_behind, held_behind, closed_octets}
use Rattle.dm_node.proofs.NodeMoving.{closed_told}

-- what is held behind it is there
pub held_moved : OthersStayUnheld → PeerLaws → (policy : Policy) (e : NodeEvent) (n : Node) (ps qs : List (Option Peer))
    (who : Option ℕ) (actions : List Action) → AreKept ps → NodeIsTold policy e n ps who actions qs →
    (f : Intakes) → AllHeldAreThere ps f → NamesThere (told_of e) f → AllHeldAreThere qs f
held_moved others laws policy e n ps qs who actions kept m f there named =
    held_behind others laws ps qs who (told_of e) actions f kept (event_behind policy e n ps qs who actions m) there
    named

-- what is closed nobody holds behind it
pub closed_moved : ClosedIsUnheld → ClosesItsOwn → PeerLaws → (policy : Policy) (e : NodeEvent) (n : Node)
    (ps qs : List (Option Peer)) (who : Option ℕ) (actions : List Action) → AreKept ps → AreApart ps →
    NodeIsTold policy e n ps who actions qs → (c : Conn) → actions_close actions c.0 ≡ true → IsFree qs c
closed_moved closed own laws policy (event.Arrived d octets) n ps qs who actions kept apart m c is =
    closed_octets laws policy d octets.now n ps qs actions closed own who kept apart m c is
closed_moved closed own laws policy e n ps qs (Some i) actions kept apart m c is =
    closed_told closed own ps qs i (told_of e) actions kept apart (λ j d came held. absurd (cc came.1)) m.1 c is
closed_moved closed own laws policy e n ps qs None actions kept apart m c is =
    absurd (true≢false (sym is ∙ ap (λ l. actions_close l c.0) m.1))

-- why it is refused
refused_by : (policy : Policy) (ps : List (Option Peer)) (e : NodeEvent) (f : PeerFault) (i : ℕ) →
    Concerns policy ps e i → IsRefusedBy ps i (told_of e) f →
    (fault.Peer f ≡ fault.Peer NoMemory) ⊎ IsDeclinedHere policy ps e (fault.Peer f)
refused_by policy ps e f i is h = elim h.refused [
  | inl memory ↦ inl (ap fault.Peer memory.0)
  | inr declined ↦ inr (i, is, record { peer = h.peer; at = h.at; refused = declined })
]

pub refused : (policy : Policy) (ps : List (Option Peer)) (e : NodeEvent) (f : OrderFault) →
    IsRefusedHere policy ps e f → (f ≡ fault.Peer NoMemory) ⊎ IsDeclinedHere policy ps e f
refused policy ps e (fault.Peer f) (inl (i, is, h)) = refused_by policy ps e f i is h
refused policy ps e (fault.Peer f) (inr h) = inl (ap fault.Peer h.0)
refused policy ps e fault.NoNeighbour h = inr h

-- octets are refused for want of memory alone, where some is wanted
memory_at : RefusesByRule → (policy : Policy) (ps : List (Option Peer)) (c : Conn) (octets : _) (f : OrderFault) →
    AreKept ps → IsRefusedHere policy ps (event.Arrived c octets) f → TakesMemoryAt policy c octets.now ps
memory_at rule policy ps c octets (fault.Peer f) kept (inl (i, at, h)) =
    inl (i, h.peer, at, h.at, wanted rule h.peer (Arrived c octets.now) f (λ is. cc is) (kept i h.peer h.at) h.refused)
memory_at rule policy ps c octets (fault.Peer f) kept (inr h) = inr (h.1, h.2)
memory_at rule policy ps c octets fault.NoNeighbour kept h = absurd h

abbrev memory_on : Policy → List (Option Peer) → PeerEvent → Type 0
memory_on policy ps (Arrived c s) = TakesMemoryAt policy c s ps
memory_on policy ps e = ⊥

pub memory : RefusesByRule → (policy : Policy) (ps : List (Option Peer)) (c : Conn) (octets : List ℕ) (e : NodeEvent)
    (f : OrderFault) → AreKept ps → told_of e ≡ Arrived c octets → IsRefusedHere policy ps e f →
    TakesMemoryAt policy c octets ps
memory rule policy ps c octets (event.Arrived d piece) f kept is h =
    subst (memory_on policy ps) is (memory_at rule policy ps d piece f kept h)
memory rule policy ps c octets e f kept is h = absurd (cc is)
