-- What comes next to a side, and what a loss finds.
use Rattle.std.specs.Prelude.{ℕ, Bool, true, List}
use Rattle.dm_two_peers.specs.Links.{Side, Link}
use Rattle.dm_two_peers.specs.Happens.{NextMessage, NextDisconnect, NextNothing, next_in, if_up, own_view, are_shut}
use Rattle.dm_two_peers.specs.Happens as happens
use Rattle.dm_world.specs.Fed.{octets_to_come}
use Rattle.dm_world.specs.declared.direction.Next.{Next}
use Rattle.dm_world.specs.declared.direction.Next.TheVariants as next

abbrev pub next_kind : happens.Next (List ℕ) → Next
next_kind (NextMessage x) = next.Message
next_kind NextDisconnect = next.Disconnect
next_kind NextNothing = next.Nothing

-- only on a link that is up
abbrev pub next_to : Side → Link (List ℕ) → Next
next_to s l =
    next_kind (if_up l.phase (next_in (own_view s l).incoming.messages (own_view s l).incoming.mark) NextNothing)

-- a link that isn't up, or both of whose ends are shut
abbrev pub is_past_loss : Link (List ℕ) → Bool
is_past_loss l = if_up l.phase (are_shut l.opener_end l.other_end) true

-- how many octets of the front message are still to come to a side
abbrev pub octets_to_come_to : Side → Link (List ℕ) → ℕ
octets_to_come_to s l = octets_to_come (own_view s l).incoming.messages (own_view s l).incoming.taken
