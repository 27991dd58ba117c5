-- Numbers and octets as text are read as what they were.
use Rattle.std.specs.Prelude.{◌≡◌, ◌≤◌, ◌⊎◌, ℕ, List, Some}
use Rattle.std.specs.Fmt.{decimal}
use Rattle.hex.specs.Hex.{IsBytes, encode_lower}
use Rattle.dm_text.specs.Numbers.{TellsUpTo, TellsLongNumber}
use Rattle.dm_text.specs.Hexadecimal.{word_octets}

-- a word tells one number at most
abbrev pub OneNumber : Type 0
OneNumber = (most n k : ℕ) (word : List ℕ) → TellsUpTo most n word → TellsUpTo most k word → n ≡ k

-- each word tells a number of at most so much, or none
abbrev pub NumberOrNone : Type 0
NumberOrNone = (most : ℕ) (word : List ℕ) → ((n : ℕ) × TellsUpTo most n word) ⊎ ((n : ℕ) → TellsUpTo most n word → ⊥)

-- the decimal text of a number of 64 bits tells it
abbrev pub NumberReadBack : Type 0
NumberReadBack = (n : ℕ) → n ≤ 18446744073709551615 → TellsLongNumber n (decimal n)

-- octets in lower case hexadecimal stand for what they were
abbrev pub OctetsReadBack : Type 0
OctetsReadBack = (octets : List ℕ) → IsBytes octets → word_octets (encode_lower octets) ≡ Some octets
