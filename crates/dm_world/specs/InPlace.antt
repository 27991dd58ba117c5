-- Where a peer takes a Start, a Stop or a Submit: by its state (RFC 6733, 5.6).
use Rattle.std.specs.Prelude.{Bool, true, false}
use Rattle.dm_machine.specs.Moves.{is_open}
use Rattle.dm_machine.specs.declared.state_name.State.{State}
use Rattle.dm_machine.specs.declared.state_name.State.TheVariants.{Closed}
use Rattle.dm_peer.specs.Events.{PeerEvent, Start, Stop, Submit}

abbrev pub is_closed_state : State → Bool
is_closed_state Closed = true
is_closed_state _ = false

-- a Start in Closed, a Stop or a Submit in an open state, all else in each
abbrev pub is_in_place : State → PeerEvent → Bool
is_in_place s (Start c) = is_closed_state s
is_in_place s (Stop cause) = is_open s
is_in_place s (Submit octets) = is_open s
is_in_place s _ = true
