-- The laws of two peers, for any state P of a peer and any type M of messages.
use Rattle.std.specs.Prelude.{◌≡◌, IfSome, List, []}
use Rattle.dm_two_peers.specs.Machine.{closed_node}
use Rattle.dm_two_peers.specs.Peers.{Peers}
use Rattle.dm_two_peers.specs.Worlds.{World}
use Rattle.dm_two_peers.specs.Happens.{Happening, happens, world_after, run}
use Rattle.dm_two_peers.specs.Follows.{IsMachine}
use Rattle.dm_two_peers.specs.Facts.{IsSoundWorld}
use Rattle.dm_two_peers.specs.Agreement.{Agreed, EndsAreHeld, HeldAreLinks, OpenIsMatched}

abbrev pub world_of : {P M : Type 0} → P → P → World P M
world_of a b = record { a = a; b = b; links = [] }

-- two closed peers without links are sound
abbrev pub ClosedIsSound : Type 0 → Type 0 → Type 0
ClosedIsSound P M =
    (m : Peers P M) (a b : P) → m.node_of a ≡ closed_node → m.node_of b ≡ closed_node → IsSoundWorld m (world_of a b)

-- each happening keeps a world sound
abbrev pub HappeningKeepsSound : Type 0 → Type 0 → Type 0
HappeningKeepsSound P M =
    (m : Peers P M) → IsMachine m → (w : World P M) (h : Happening M) → IsSoundWorld m w →
    IsSoundWorld m (world_after w (happens m w h))

-- what a sound world has
pub record Promised {P M : Type 0} (m : Peers P M) (w : World P M) : Type 0 where
  pub agreed : Agreed m w
  pub ends_are_held : EndsAreHeld m w
  pub held_are_links : HeldAreLinks m w
  pub open_is_matched : OpenIsMatched m w

abbrev pub SoundIsPromised : Type 0 → Type 0 → Type 0
SoundIsPromised P M = (m : Peers P M) (w : World P M) → IsSoundWorld m w → Promised m w

-- two closed peers keep the promise after every list of happenings
abbrev pub EachRunIsPromised : Type 0 → Type 0 → Type 0
EachRunIsPromised P M =
    (m : Peers P M) → IsMachine m → (a b : P) → m.node_of a ≡ closed_node → m.node_of b ≡ closed_node →
    (list : List (Happening M)) →
    IfSome (run m (world_of a b) list) (λ r. Promised m r.world)
