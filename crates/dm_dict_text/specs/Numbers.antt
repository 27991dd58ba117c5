-- A number up to a limit.
use Rattle.std.specs.Prelude.{ℕ, nat_lt, Option, Some, None, if◌then◌else◌}

abbrev pub within : ℕ → ℕ → Option ℕ
within limit n = if nat_lt limit n then None else Some n
