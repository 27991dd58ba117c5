-- What of a line stands for octets: hexadecimal digits, without what may stand round and between them.
use Rattle.std.specs.Prelude.{ℕ, Bool, ◌&&◌, ◌||◌, ◌==◌, Option, List, ◌∷◌, flat_map, if◌then◌else◌}
use Rattle.std.specs.List.{slice_split, before_first}
use Rattle.dm_text.specs.Hexadecimal.{word_octets}

-- without a byte order mark at its front
abbrev pub without_mark : List ℕ → List ℕ
without_mark (a ∷ b ∷ c ∷ s) = if a == 239 && (b == 187 && c == 191) then s else a ∷ b ∷ c ∷ s
without_mark s = s

-- a comment begins with `;` or `#`
abbrev pub begins_comment : ℕ → Bool
begins_comment b = b == 59 || b == 35

-- a space, a tab or `:`
abbrev pub is_between : ℕ → Bool
is_between b = b == 32 || b == 9 || b == 58

-- a word without `0x` or `0X` at its front
abbrev pub without_prefix : List ℕ → List ℕ
without_prefix (a ∷ b ∷ s) = if a == 48 && (b == 120 || b == 88) then s else a ∷ b ∷ s
without_prefix s = s

-- the digits of words, between which stands what may
abbrev pub digits_of_words : List ℕ → List ℕ
digits_of_words s = flat_map without_prefix (slice_split is_between s)

-- the digits of a line
abbrev pub line_digits : List ℕ → List ℕ
line_digits line = digits_of_words (before_first begins_comment (without_mark line))

-- the octets that they stand for, where they are an even number of digits in either case
abbrev pub octets_of_line : List ℕ → Option (List ℕ)
octets_of_line line = word_octets (line_digits line)
