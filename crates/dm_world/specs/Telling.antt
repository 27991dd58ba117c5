-- What a side's peer is told, and what comes of it on the links.
use Rattle.std.specs.Prelude.{◌≡◌, ℕ, Bool, true, false, Option, Some, List, []}
use Rattle.dm_framer.specs.Stream.{Stream}
use Rattle.dm_peer.specs.declared.actions.Action.{Action}
use Rattle.dm_peer.specs.declared.peer.Peer.{Peer}
use Rattle.dm_peer.specs.Events.{PeerEvent, Start, Ack, Nack, Gone, Arrived}
use Rattle.dm_two_peers.specs.Links.{Side, Link}
use Rattle.dm_two_peers.specs.Machine.{LinkConcern, Elsewhere, StartsLink, MakesLink, FailsLink, EndsLink, HeardOnLink}
use Rattle.dm_two_peers.specs.Peers.{Event}
use Rattle.dm_two_peers.specs.Worlds.{enter, perform, settle}
use Rattle.dm_octet_peers.specs.Octets.{as_actions}
use Rattle.dm_world.specs.Fed.{holding}

abbrev pub is_start : PeerEvent → Bool
is_start (Start c) = true
is_start _ = false

-- how an event concerns the link that it names
abbrev pub concern_in : PeerEvent → LinkConcern
concern_in (Start c) = StartsLink
concern_in (Ack c) = MakesLink
concern_in (Nack c) = FailsLink
concern_in (Gone c) = EndsLink
concern_in (Arrived c s) = HeardOnLink
concern_in _ = Elsewhere

-- beside a message that arrived there is the framer that handed it out
abbrev pub FramerFits : PeerEvent → Option Stream → Type 0
FramerFits (Arrived c s) framer = framer ≡ Some (holding [])
FramerFits _ framer = Unit {0}

-- the links after an event of a side, whose peer asks for these actions
abbrev pub links_after : Side → Event (List ℕ) → List Action → Peer → List (Link (List ℕ)) → List (Link (List ℕ))
links_after s e actions next ls = settle s e next.standing.core (perform s (as_actions actions) (enter s e ls))
