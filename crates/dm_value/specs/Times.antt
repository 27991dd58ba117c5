-- The instant of a value of type Time (RFC 6733, 4.3.1).
use Rattle.std.specs.Prelude.{ℕ, ◌+◌, ◌^◌, ℤ, pos, ◌-ℤ◌, nat_lt, if◌then◌else◌}

-- 70 years of 365 days and 17 leap days, in seconds
abbrev pub from_1900_to_1970 : ℕ
from_1900_to_1970 = 2208988800

-- seconds since 1970: with the top bit set the count began in 1900, without it 2 ^ 32 seconds later, in 2036 (4.3.1)
abbrev pub unix_time : ℕ → ℤ
unix_time t = if nat_lt t (2 ^ 31) then pos (t + 2 ^ 32) -ℤ pos from_1900_to_1970 else pos t -ℤ pos from_1900_to_1970
