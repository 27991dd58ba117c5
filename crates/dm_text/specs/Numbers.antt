-- The numbers that words tell.
use Rattle.std.specs.Prelude.{◌≡◌, ◌≤◌, ℕ, List}
use Rattle.std.specs.Str.Parse.{IsNumeral, digits_value}

-- decimal digits alone, with any number of leading zeros, that write n, which is at most this number
abbrev pub TellsUpTo : ℕ → ℕ → List ℕ → Type 0
TellsUpTo most n word = IsNumeral 10 word × (digits_value 10 word ≡ n) × (n ≤ most)

-- a number of 32 bits
abbrev pub TellsNumber : ℕ → List ℕ → Type 0
TellsNumber = TellsUpTo 4294967295

-- a number of 64 bits
abbrev pub TellsLongNumber : ℕ → List ℕ → Type 0
TellsLongNumber = TellsUpTo 18446744073709551615
