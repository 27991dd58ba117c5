-- A happening as the laws of two peers see it, and where it may want memory.
use Rattle.std.specs.Prelude.{ℕ, Bool, true, false, not, ◌&&◌, ◌||◌, nat_lt, Option, Some, None, List, slice_get}
use Rattle.dm_peer.specs.declared.peer.Peer.{Peer}
use Rattle.dm_two_peers.specs.Facts.{is_pending, is_shut}
use Rattle.dm_two_peers.specs.Links.{Side, Link}
use Rattle.dm_two_peers.specs.Worlds.{World, peer_on}
use Rattle.dm_machine.specs.Moves.{is_open}
use Rattle.dm_machine.specs.declared.state_name.State.{State}
use Rattle.dm_world.specs.InPlace.{is_closed_state}
use Rattle.dm_two_peers.specs.Happens.{own_view, Happening, Starts, Stops, TimesOut, Ticks, Restarts, Acks, Nacks}
use Rattle.dm_two_peers.specs.Happens.{Delivers, Pieces, Loses, Submits}
use Rattle.dm_world.specs.declared.happening.Happening as declared_happening
use Rattle.dm_world.specs.declared.happening.Happening.TheVariants as happening
use Rattle.dm_octet_peers.specs.Octets.{as_cause}
use Rattle.dm_world.specs.declared.direction.Next.{Next}
use Rattle.dm_world.specs.declared.direction.Next.TheVariants as next
use Rattle.dm_world.specs.Next.{next_to, octets_to_come_to}
use Rattle.dm_world.specs.Seen.{as_side}

abbrev pub as_happening : declared_happening.Happening → Happening (List ℕ)
as_happening (happening.Start s) = Starts (as_side s)
as_happening (happening.Stop s cause) = Stops (as_side s) (as_cause cause)
as_happening (happening.Timeout s) = TimesOut (as_side s)
as_happening (happening.Tick s) = Ticks (as_side s)
as_happening (happening.Restart s) = Restarts (as_side s)
as_happening (happening.Ack c) = Acks c.0
as_happening (happening.Nack c) = Nacks c.0
as_happening (happening.Deliver c s) = Delivers c.0 (as_side s)
as_happening (happening.Piece c s k) = Pieces c.0 (as_side s) k
as_happening (happening.Lose c a b) = Loses c.0 a b
as_happening (happening.Submit s x) = Submits (as_side s) x

abbrev pub is_message : Next → Bool
is_message next.Message = true
is_message _ = false

abbrev pub is_something : Next → Bool
is_something next.Nothing = false
is_something _ = true

-- the link of a number is there, and its connect is pending
abbrev pub is_pending_at : Option (Link (List ℕ)) → Bool
is_pending_at None = false
is_pending_at (Some l) = is_pending l.phase

abbrev pub is_shut_at : Side → Link (List ℕ) → Bool
is_shut_at s l = is_shut (own_view s l).own

-- it is there, something comes next to a side, and the side's end isn't shut
abbrev pub is_heard_at : Side → Option (Link (List ℕ)) → Bool
is_heard_at s None = false
is_heard_at s (Some l) = is_something (next_to s l) && not (is_shut_at s l)

-- it is there, and of a message that comes next some octets come: its last ones to an end that isn't shut, or others
abbrev pub is_fed_at : Side → ℕ → Option (Link (List ℕ)) → Bool
is_fed_at s k None = false
is_fed_at s k (Some l) =
    is_message (next_to s l) && (not (is_shut_at s l) || nat_lt k (octets_to_come_to s l)) && nat_lt 0 k

-- the state of a side's peer
abbrev pub state_at : Side → World Peer (List ℕ) → State
state_at s w = (peer_on s w).standing.core.state

-- memory may be wanted: never by a Start outside Closed, by a Stop or a Submit where it isn't open, where the link
-- isn't there, or nothing of it comes
abbrev pub may_want : World Peer (List ℕ) → declared_happening.Happening → Bool
may_want w (happening.Start s) = is_closed_state (state_at (as_side s) w)
may_want w (happening.Stop s cause) = is_open (state_at (as_side s) w)
may_want w (happening.Submit s octets) = is_open (state_at (as_side s) w)
may_want w (happening.Timeout s) = false
may_want w (happening.Restart s) = false
may_want w (happening.Lose c a b) = false
may_want w (happening.Ack c) = is_pending_at (slice_get w.links c.0)
may_want w (happening.Nack c) = is_pending_at (slice_get w.links c.0)
may_want w (happening.Deliver c s) = is_heard_at (as_side s) (slice_get w.links c.0)
may_want w (happening.Piece c s k) = is_fed_at (as_side s) k (slice_get w.links c.0)
may_want w (happening.Tick s) = true
