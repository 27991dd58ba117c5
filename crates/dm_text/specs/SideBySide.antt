-- Digits that are read side by side.
use Rattle.std.specs.Prelude.{◌≡◌, ◌<◌, ℕ, ◌+◌, ◌*◌, ◌%◌, cond, nat_le, nat_lt, map, take, drop}
use Rattle.std.specs.Prelude.{List, [], ◌∷◌, ◌++◌, Result, Ok, Err}
use Rattle.std.specs.Simd.Lanes.{mask_l}
use Rattle.dm_text.specs.Hexadecimal.{digit_worth}
use Rattle.hex.specs.Hex.{decode_pairs, encode_lower}
use Rattle.hex.specs.declared.error.FromHexError.{FromHexError}

-- a bit for each value that is no digit's
abbrev pub bad_lanes : List ℕ → ℕ
bad_lanes worths = mask_l (map (nat_le 16) worths)

-- the values two by two, each two an octet
abbrev pub paired : List ℕ → List ℕ
paired [] = []
paired (high ∷ []) = []
paired (high ∷ low ∷ worths) = (high * 16 + low) ∷ paired worths

-- a digit's mark is 240 and its value, and what is less is no digit's
abbrev pub worth_of_mark : ℕ → ℕ
worth_of_mark mark = cond (nat_le 240 mark) (mark % 16) 255

-- a bit for each mark that is no digit's
abbrev pub bad_marks : List ℕ → ℕ
bad_marks marks = mask_l (map (λ mark. nat_lt mark 240) marks)

-- the digits of so many octets are good, and those octets are read
pub record AreRead (word octets : List ℕ) (i : ℕ) : Type 0 where
  pub good : bad_lanes (map digit_worth (take (2 * i) word)) ≡ 0
  pub read : take i octets ≡ paired (map digit_worth (take (2 * i) word))

-- an octet of the word is no digit
abbrev pub HasBadDigit : List ℕ → Type 0
HasBadDigit word = 0 < bad_lanes (map digit_worth word)

-- what is read, behind these octets
abbrev pub read_behind : List ℕ → Result (List ℕ) FromHexError → Result (List ℕ) FromHexError
read_behind front (Ok rest) = Ok (front ++ rest)
read_behind front (Err e) = Err e

-- so many octets are read, and the digits from there on are left
abbrev pub ReadUpTo : List ℕ → List ℕ → ℕ → Type 0
ReadUpTo word octets i = decode_pairs 0 word ≡ read_behind (take i octets) (decode_pairs (2 * i) (drop (2 * i) word))

-- one of the first, one of the second, and so on
abbrev pub by_turns : List ℕ → List ℕ → List ℕ
by_turns [] ys = []
by_turns (x ∷ xs) [] = []
by_turns (x ∷ xs) (y ∷ ys) = x ∷ y ∷ by_turns xs ys

-- the digits of so many octets are put, and those of the others are left
abbrev pub PutUpTo : List ℕ → List ℕ → ℕ → Type 0
PutUpTo octets room i = take (2 * i) room ++ encode_lower (drop i octets) ≡ encode_lower octets
