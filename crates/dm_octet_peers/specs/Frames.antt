-- Every message that a peer over octets sends is a frame of a stream (RFC 6733, 3).
use Rattle.std.specs.Prelude.{◌≡◌, ⊤, ℕ, List, [], ◌∷◌}
use Rattle.dm_framer.specs.Frames.{IsFrame}
use Rattle.dm_peer.specs.declared.actions.Action as declared_action
use Rattle.dm_peer.specs.declared.peer.Peer.{Peer}
use Rattle.dm_peer.specs.Acts.{Moved, acts}
use Rattle.dm_peer.specs.Events.{PeerEvent, Submit}
use Rattle.dm_wire.specs.Codes.{max_message_len}
use Rattle.dm_wire.specs.Octets.{AreOctets}
use Rattle.dm_two_peers.specs.Peers.{Action, Send}
use Rattle.dm_octet_peers.specs.Octets.{as_actions}

-- the octets that an event submits
abbrev pub submitted_in : PeerEvent → List ℕ
submitted_in (Submit s) = s
submitted_in _ = []

-- what is sent are frames for the greatest Message Length
abbrev pub SendFrames : List (Action (List ℕ)) → Type 0
SendFrames [] = ⊤
SendFrames (Send c s ∷ more) = IsFrame max_message_len s × SendFrames more
SendFrames (_ ∷ more) = SendFrames more

-- whatever a peer is told, the numbers of a list that is submitted being octets
abbrev pub OctetsAreFrames : Type 0
OctetsAreFrames =
    (p next : Peer) (e : PeerEvent) (actions : List declared_action.Action) → AreOctets (submitted_in e) →
    acts p e ≡ Moved actions next → SendFrames (as_actions actions)
