-- What contracts see of a walk over octets.
use Rattle.std.specs.Prelude.{ℕ, Bool, List}

-- the octets that the walk has not passed, the offset of the first of them, and whether it met a bad AVP
pub record Walk : Type 0 where
  pub left : List ℕ
  pub offset : ℕ
  pub ended : Bool
