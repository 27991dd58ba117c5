-- How much a run takes of its input.
use Rattle.std.specs.Prelude.{ℕ, ◌≤◌, List, length, Option, IfSome}

-- the most octets
abbrev pub input_limit : ℕ
input_limit = 67108864

-- the most turns of the loop that reads
abbrev pub read_limit : ℕ
read_limit = input_limit

-- at least the most octets are there, where it is known which are
abbrev pub HasMost : Option (List ℕ) → Type 0
HasMost input = IfSome input (λ octets. input_limit ≤ length octets)
