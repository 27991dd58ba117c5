-- What two peers over octets deliver of their users' messages.
use Rattle.std.specs.Prelude.{ℕ, Bool, true, false, IfSome, Option, Some, None, List}
use Rattle.dm_wire.specs.declared.message.Header.{Header}
use Rattle.dm_wire.specs.Whole.{message_in}
use Rattle.dm_base.specs.Commands.{is_base_command}
use Rattle.dm_peer.specs.declared.config.Config.{Config}
use Rattle.dm_peer.specs.declared.peer.Peer.{Peer}
use Rattle.dm_peer.specs.Acts.{can_submit}
use Rattle.dm_machine.specs.Awaiting.{holds_cer}
use Rattle.dm_two_peers.specs.Links.{Side}
use Rattle.dm_two_peers.specs.Happens.{Happening, run}
use Rattle.dm_two_peers.specs.Laws.{world_of}
use Rattle.dm_two_peers.specs.Turns.{all_turns}
use Rattle.dm_two_peers.specs.Arriving.{HandUpWhatCame}
use Rattle.dm_two_peers.specs.Delivery.{submitted_on, handed_up_on, has_loss_of, CarriesMessages, DeliversInOrder}
use Rattle.dm_octet_peers.specs.Octets.{octet_peers}
use Rattle.dm_octet_peers.specs.Laws.{fresh_peer}

-- octets that spell a message of another command than the base ones: a message of an application
abbrev pub is_app : List ℕ → Bool
is_app s = can_submit (message_in s)

-- a request of a base command waits for its answer just in the states for it
abbrev pub waits_well : Bool → Option Header → Bool
waits_well true (Some h) = is_base_command h.command
waits_well false None = true
waits_well _ _ = false

abbrev pub is_waiting_well : Peer → Bool
is_waiting_well p = waits_well (holds_cer p.standing.core.state) p.standing.waiting

-- peers over octets carry messages of applications
abbrev pub OctetsCarry : Type 0
OctetsCarry = CarriesMessages octet_peers is_app is_waiting_well

-- two new peers, whatever their configurations, after every list of happenings: what was handed up to a side on a link
-- is a front of what the other side submitted on it; where the side is open on it and it had no loss, the rest is under
-- way
abbrev pub EachOctetRunDelivers : Type 0
EachOctetRunDelivers =
    (a b : Config) (hs : List (Happening (List ℕ))) (t : Side) (c : ℕ) →
    IfSome (run octet_peers (world_of (fresh_peer a) (fresh_peer b)) hs)
    (λ r. let us = all_turns octet_peers (world_of (fresh_peer a) (fresh_peer b)) hs in
    DeliversInOrder octet_peers is_app r.world t c (has_loss_of c hs) (submitted_on t c us) (handed_up_on t c us))

-- what is handed up to them at an event are the octets that it brings, once, or nothing
abbrev pub EachOctetRunHandsUpWhatCame : Type 0
EachOctetRunHandsUpWhatCame =
    (a b : Config) (hs : List (Happening (List ℕ))) →
    HandUpWhatCame (all_turns octet_peers (world_of (fresh_peer a) (fresh_peer b)) hs)
