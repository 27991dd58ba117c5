-- The octets that hexadecimal digits stand for.
use Rattle.std.specs.Prelude.{ℕ, ◌/◌, ◌%◌, not, nat_eq, filter, slice_index, Option, unwrap_or, List, [], ◌∷◌}
use Rattle.std.specs.Result.{result_ok}
use Rattle.hex.specs.Hex.{decode_of, hex_digit_value, lower_digits}

-- the value of a digit in either case; 255 where the octet is none
abbrev pub digit_worth : ℕ → ℕ
digit_worth octet = unwrap_or (hex_digit_value octet) 255

-- the octets that a word stands for, where it is an even number of digits in either case
abbrev pub word_octets : List ℕ → Option (List ℕ)
word_octets word = result_ok (decode_of word)

-- the line with its spaces taken out
abbrev pub without_spaces : List ℕ → List ℕ
without_spaces line = filter (λ b. not (nat_eq b 32)) line

-- the octets that a line stands for, spaces aside
abbrev pub line_octets : List ℕ → Option (List ℕ)
line_octets line = word_octets (without_spaces line)

-- the two digits of an octet, in lower case
abbrev pub digit_pair : ℕ → List ℕ
digit_pair octet = slice_index lower_digits (octet / 16) ∷ slice_index lower_digits (octet % 16) ∷ []

-- the digit of an octet's upper half, in lower case, and that of its lower half
abbrev pub high_digit : ℕ → ℕ
high_digit octet = slice_index lower_digits (octet / 16)

abbrev pub low_digit : ℕ → ℕ
low_digit octet = slice_index lower_digits (octet % 16)
