-- The ends that are fresh, and what makes one.
use Rattle.std.specs.Prelude.{◌≡◌, ◌⊎◌, ℕ, Bool, true, false, ◌&&◌, Option, Some, None, slice_get}
use Rattle.dm_two_peers.specs.Links.{Side, flip, Link}
use Rattle.dm_two_peers.specs.Peers.{Peers}
use Rattle.dm_two_peers.specs.Worlds.{World}
use Rattle.dm_two_peers.specs.Happens.{Happening, Acks, happens, world_after, own_view}
use Rattle.dm_two_peers.specs.Facts.{is_up, is_fresh}

-- the end of a side is fresh, on a link that is up
abbrev pub has_fresh_end : {M : Type 0} → Side → Link M → Bool
has_fresh_end s l = is_up l.phase && is_fresh (own_view s l).own

-- on the link, if there is one
abbrev pub is_fresh_on : {M : Type 0} → Side → Option (Link M) → Bool
is_fresh_on s None = false
is_fresh_on s (Some l) = has_fresh_end s l

-- the happening is the Ack of a link that the other side opened
pub record MakesEnd {P M : Type 0} (w : World P M) (h : Happening M) (s : Side) (c : ℕ) : Type 0 where
  pub link : Link M
  pub there : slice_get w.links c ≡ Some link
  pub opened : link.opener ≡ flip s
  pub acks : h ≡ Acks c

-- an end that is fresh after a happening was fresh before, or is made by it
abbrev pub AcksMakeEnds : Type 0 → Type 0 → Type 0
AcksMakeEnds P M =
    (m : Peers P M) (w : World P M) (h : Happening M) (s : Side) (c : ℕ) →
    is_fresh_on s (slice_get (world_after w (happens m w h)).links c) ≡ true →
    (is_fresh_on s (slice_get w.links c) ≡ true) ⊎ MakesEnd w h s c
