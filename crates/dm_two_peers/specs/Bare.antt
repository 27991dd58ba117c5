-- A link that isn't up carries nothing.
use Rattle.std.specs.Prelude.{◌≡◌, ℕ, Bool, ◌&&◌, IsTrue, IsFalse, Some, slice_get}
use Rattle.dm_two_peers.specs.Links.{Direction, Link}
use Rattle.dm_two_peers.specs.Peers.{Peers}
use Rattle.dm_two_peers.specs.Worlds.{World}
use Rattle.dm_two_peers.specs.Facts.{is_empty, is_none, is_up, IsSoundWorld}

-- a direction with no message, and without a disconnect, coming or delivered
abbrev pub is_bare_way : {M : Type 0} → Direction M → Bool
is_bare_way d = is_empty d.messages && is_none d.mark

-- both directions of each link that isn't up are so, in every sound world
abbrev pub OnlyUpLinksCarry : Type 0 → Type 0 → Type 0
OnlyUpLinksCarry P M =
    (m : Peers P M) (w : World P M) → IsSoundWorld m w → (c : ℕ) (l : Link M) → slice_get w.links c ≡ Some l →
    IsFalse (is_up l.phase) → IsTrue (is_bare_way l.to_opener && is_bare_way l.to_other)
