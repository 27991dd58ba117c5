-- A piece counts as a step just where it ends its message.
use Rattle.std.specs.Prelude.{◌≡◌, ℕ, ◌+◌, ◌<◌, ◌≤◌, List}
use Rattle.dm_two_peers.specs.Links.{Side, Link}
use Rattle.dm_two_peers.specs.Peers.{Peers}
use Rattle.dm_two_peers.specs.Worlds.{World}
use Rattle.dm_two_peers.specs.Happens.{Pieces, own_view}
use Rattle.dm_two_peers.specs.Quiet.{cost}
use Rattle.dm_two_peers.specs.Streams.{IsNextTowards}

-- a piece that ends no message is no step, one that ends its message is one
pub record CountsAtEnd {P M : Type 0} (m : Peers P M) (w : World P M) (c : ℕ) (s : Side) (l : Link M) (x : M)
    (k : ℕ) : Type 0 where
  pub part : (own_view s l).incoming.taken + k < m.size x → cost m w (Pieces c s k) ≡ 0
  pub last : m.size x ≤ (own_view s l).incoming.taken + k → cost m w (Pieces c s k) ≡ 1

abbrev pub EachPieceCounts : Type 0 → Type 0 → Type 0
EachPieceCounts P M =
    (m : Peers P M) (w : World P M) (c : ℕ) (s : Side) (l : Link M) (x : M) (more : List M) (k : ℕ) →
    IsNextTowards w c s l x more → CountsAtEnd m w c s l x k
