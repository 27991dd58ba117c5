-- When an event is refused, but for want of memory: the rules in words, for `acts` says it by the state machine.
use Rattle.std.specs.Prelude.{◌≡◌, Bool, IsTrue, Option, None, Some, if◌then◌else◌}
use Rattle.dm_wire.specs.Whole.{message_in}
use Rattle.dm_machine.specs.declared.state_name.State.{State}
use Rattle.dm_machine.specs.declared.state_name.State.TheVariants.{Closed}
use Rattle.dm_machine.specs.Node.{is_shaped}
use Rattle.dm_machine.specs.Moves.{is_open}
use Rattle.dm_peer.specs.declared.fault.PeerFault.{PeerFault}
use Rattle.dm_peer.specs.declared.fault.PeerFault.TheVariants.{NotClosed, NotOpen, BadSubmit}
use Rattle.dm_peer.specs.declared.peer.Peer.{Peer}
use Rattle.dm_peer.specs.Events.{PeerEvent, Start, Stop, Submit}
use Rattle.dm_peer.specs.Acts.{Outcome, Moved, Refused, acts, can_submit}

-- a Start outside Closed
abbrev pub start_refusal : State → Option PeerFault
start_refusal Closed = None
start_refusal _ = Some NotClosed

-- a Stop or Submit outside the open states
abbrev pub open_refusal : State → Option PeerFault
open_refusal s = if is_open s then None else Some NotOpen

-- in an open state a Submit of what can't be submitted
abbrev pub submit_refusal : State → Bool → Option PeerFault
submit_refusal s can = if is_open s then (if can then None else Some BadSubmit) else Some NotOpen

-- all else isn't refused
abbrev pub refusal_of : State → PeerEvent → Option PeerFault
refusal_of s (Start c) = start_refusal s
refusal_of s (Stop cause) = open_refusal s
refusal_of s (Submit octets) = submit_refusal s (can_submit (message_in octets))
refusal_of s _ = None

abbrev pub fault_at : Outcome → Option PeerFault
fault_at (Moved actions next) = None
fault_at (Refused f) = Some f

-- the outcome is a refusal just by these rules
abbrev pub RefusesByRule : Type 0
RefusesByRule =
    (p : Peer) (e : PeerEvent) → IsTrue (is_shaped p.standing.core)
    → fault_at (acts p e) ≡ refusal_of p.standing.core.state e
