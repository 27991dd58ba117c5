-- The limits of the numbers of a dictionary, as numbers of their own, so that a constant of the code has to be right.
use Rattle.std.specs.Prelude.{ℕ}

-- what 32 bits hold
abbrev pub number_limit : ℕ
number_limit = 4294967295

-- what a listed value may be: an Enumerated is signed (RFC 6733, 4.3.1), and a negative value can't be written
abbrev pub listed_limit : ℕ
listed_limit = 2147483647

-- how many places of AVPs are noted under the lowest bits of their codes
abbrev pub guess_slots : ℕ
guess_slots = 512

-- the guess where nothing is guessed
abbrev pub no_guess : ℕ
no_guess = 65535

-- the last place that is guessed for a name
abbrev pub last_guess : ℕ
last_guess = 65534

-- the most values among which a number is looked for one by one
abbrev pub short_list : ℕ
short_list = 8
