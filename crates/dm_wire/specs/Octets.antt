-- Numbers that are octets.
use Rattle.std.specs.Prelude.{ℕ, ◌<◌, List, slice_index}

-- each number of the list is below 256
abbrev pub AreOctets : List ℕ → Type 0
AreOctets s = (i : ℕ) → slice_index s i < 256
