-- Octets that go on a word for sure, and lines of them.
use Rattle.std.specs.Prelude.{◌≡◌, ◌<◌, ◌&&◌, ◌||◌, ℕ, Bool, false, nat_lt, get_or, map, List}
use Rattle.std.specs.Simd.Lanes.{mask_l}

-- what is below the digits, or stands behind them and before the letters, and some of what is no ASCII
abbrev pub ends_digits : ℕ → Bool
ends_digits b = nat_lt b 48 || (nat_lt 57 b && nat_lt b 64) || (nat_lt 127 b && nat_lt b 192)

-- a bit for each mark below 128
abbrev pub low_marks : List ℕ → ℕ
low_marks marks = mask_l (map (λ mark. nat_lt mark 128) marks)

-- none of so many octets may end a word
abbrev pub NoneEnds : List ℕ → ℕ → Type 0
NoneEnds line n = (k : ℕ) → k < n → ends_digits (get_or line k 0) ≡ false
