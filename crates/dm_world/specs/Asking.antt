-- Two peers, one of which is asked.
use Rattle.std.specs.Prelude.{◌≡◌, ◌⊎◌, IsTrue, Option, Some, None}
use Rattle.dm_peer.specs.declared.actions.Action.{Action}
use Rattle.dm_peer.specs.declared.fault.PeerFault.{PeerFault}
use Rattle.dm_peer.specs.declared.fault.PeerFault.TheVariants.{NoMemory}
use Rattle.dm_peer.specs.declared.peer.Peer.{Peer}
use Rattle.dm_peer.specs.Acts.{Outcome, Moved, Refused, acts, wants_memory}
use Rattle.dm_peer.specs.Events.{PeerEvent}
use Rattle.arrayvec.specs.ArrayVec.{ArrayVec}
use Rattle.dm_two_peers.specs.Links.{Side, A, B, flip}
use Rattle.dm_world.specs.declared.pair.Pair.{Pair}
use Rattle.dm_octet_peers.specs.Octets.{octet_peers}

abbrev pub peer_of : Side → Pair → Peer
peer_of A p = p.a
peer_of B p = p.b

abbrev pub with_peer_of : Side → Peer → Pair → Pair
with_peer_of A p pair = record { a = p; b = pair.b }
with_peer_of B p pair = record { a = pair.a; b = p }

abbrev pub reset_of : Peer → Peer
reset_of p = octet_peers.reset p

-- the answer of a peer is its outcome: actions, with where it stands then, or a refusal, which changes nothing
abbrev pub IsAnswer : Outcome → Option (ArrayVec Action) → Peer → Peer → Type 0
IsAnswer o None old new = ((f : PeerFault) × (o ≡ Refused f)) × (new ≡ old)
IsAnswer o (Some actions) old new = o ≡ Moved actions.items new

-- the same of one of two peers; the other stays as it is
abbrev pub IsAnswerOf : Side → PeerEvent → Option (ArrayVec Action) → Pair → Pair → Type 0
IsAnswerOf s e answer old new =
    IsAnswer (acts (peer_of s old) e) answer (peer_of s old) (peer_of s new) ×
    (peer_of (flip s) new ≡ peer_of (flip s) old)

-- memory can be wanted
abbrev pub IsWant : Outcome → Type 0
IsWant o = IsTrue (wants_memory o) ⊎ (o ≡ Refused NoMemory)
