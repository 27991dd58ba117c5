-- An event that its state doesn't take is refused.
use Rattle.std.proofs.Common.{◌≡◌, false, None, Some, refl, ◌∙◌}
use Rattle.std.specs.Prelude.{IsTrue}
use Rattle.dm_machine.specs.Node.{is_shaped}
use Rattle.dm_machine.specs.declared.state_name.State.{State}
use Rattle.dm_machine.specs.declared.state_name.State.TheVariants as state
use Rattle.dm_peer.specs.Acts.{Outcome, Moved, Refused, acts}
use Rattle.dm_peer.specs.Events.{PeerEvent, Start, Stop, Timeout, Tick, Ack, Nack, Arrived, Gone, Submit}
use Rattle.dm_peer.specs.Refusing.{refusal_of, fault_at, RefusesByRule}
use Rattle.dm_peer.specs.declared.fault.PeerFault.{PeerFault}
use Rattle.dm_peer.specs.declared.fault.PeerFault.TheVariants.{NotClosed, NotOpen}
use Rattle.dm_peer.specs.declared.peer.Peer.{Peer}
use Rattle.dm_two_peers.specs.Links.{Side, A, B}
use Rattle.dm_two_peers.specs.Worlds.{peer_on}
use Rattle.dm_world.specs.declared.net.Net.{Net}
use Rattle.dm_world.specs.declared.pair.Pair.{Pair}
use Rattle.dm_world.specs.Asking.{peer_of, IsAnswerOf}
use Rattle.dm_world.specs.InPlace.{is_in_place}
use Rattle.dm_world.specs.Views.{as_world}

-- it has a rule that refuses it
ruled : (s : State) (e : PeerEvent) → is_in_place s e ≡ false → (f : PeerFault) × (refusal_of s e ≡ Some f)
ruled state.Closed (Start c) h = cc
ruled state.WaitConnAck (Start c) h = (NotClosed, refl)
ruled state.WaitICea (Start c) h = (NotClosed, refl)
ruled state.WaitConnAckElect (Start c) h = (NotClosed, refl)
ruled state.WaitReturns (Start c) h = (NotClosed, refl)
ruled state.ROpen (Start c) h = (NotClosed, refl)
ruled state.IOpen (Start c) h = (NotClosed, refl)
ruled state.Closing (Start c) h = (NotClosed, refl)
ruled s (Stop cause) h = (NotOpen, rw (h) refl)
ruled s (Submit octets) h = (NotOpen, rw (h) refl)
ruled s Timeout h = cc
ruled s Tick h = cc
ruled s (Ack c) h = cc
ruled s (Nack c) h = cc
ruled s (Arrived c octets) h = cc
ruled s (Gone c) h = cc

refusal_is : (o : Outcome) (f : PeerFault) → fault_at o ≡ Some f → o ≡ Refused f
refusal_is (Moved actions next) f h = cc
refusal_is (Refused g) f h = cc

refused : RefusesByRule → (p : Peer) (e : PeerEvent) → IsTrue (is_shaped p.standing.core) →
    is_in_place p.standing.core.state e ≡ false → (f : PeerFault) × (acts p e ≡ Refused f)
refused law p e shaped off =
    let rule = ruled p.standing.core.state e off in
    (rule.0, refusal_is (acts p e) rule.0 (law p e shaped ∙ rule.1))

-- so the side's peer answers
pub off_place : RefusesByRule → (s : Side) (e : PeerEvent) (pair : Pair) →
    IsTrue (is_shaped (peer_of s pair).standing.core) → is_in_place (peer_of s pair).standing.core.state e ≡ false →
    IsAnswerOf s e None pair pair
off_place law s e pair shaped off = ((refused law (peer_of s pair) e shaped off, refl), refl)

-- the peer of a side is that of the world
pub same_peer : (s : Side) (n : Net) → peer_on s (as_world n) ≡ peer_of s n.pair
same_peer A n = refl
same_peer B n = refl
