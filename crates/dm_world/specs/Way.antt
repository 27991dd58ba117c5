-- What contracts see of a direction: its messages, what was taken of the front one, its disconnect; and how many more
-- messages it has room for.
use Rattle.std.specs.Prelude.{ℕ, List}
use Rattle.dm_two_peers.specs.Links.{Direction}

pub record Way : Type 0 where
  pub direction : Direction (List ℕ)
  pub room : ℕ
