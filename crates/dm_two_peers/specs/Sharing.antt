-- Where nothing is under way the two sides hold the same connections, whatever happened before.
use Rattle.std.specs.Prelude.{◌≡◌, ℕ, IsTrue}
use Rattle.dm_machine.specs.declared.state_name.State.TheVariants.{Closed}
use Rattle.dm_two_peers.specs.Machine.{tie_of, is_tie_held}
use Rattle.dm_two_peers.specs.Links.{Side, flip}
use Rattle.dm_two_peers.specs.Peers.{Peers}
use Rattle.dm_two_peers.specs.Worlds.{World, peer_on}
use Rattle.dm_two_peers.specs.Facts.{IsSoundWorld}
use Rattle.dm_two_peers.specs.Quiet.{is_quiet}

-- a side holds a link
abbrev pub HoldsLink : {P M : Type 0} → Peers P M → World P M → Side → ℕ → Type 0
HoldsLink m w s c = IsTrue (is_tie_held (tie_of (m.node_of (peer_on s w)) c))

-- what one side holds the other holds, and where one is Closed the other is
pub record AreShared {P M : Type 0} (m : Peers P M) (w : World P M) : Type 0 where
  pub held : (s : Side) (c : ℕ) → HoldsLink m w s c → HoldsLink m w (flip s) c
  pub closed : (s : Side) → (m.node_of (peer_on s w)).state ≡ Closed →
      (m.node_of (peer_on (flip s) w)).state ≡ Closed

-- in every sound world in which nothing is under way
abbrev pub QuietIsShared : Type 0 → Type 0 → Type 0
QuietIsShared P M = (m : Peers P M) (w : World P M) → IsSoundWorld m w → IsTrue (is_quiet w) → AreShared m w
