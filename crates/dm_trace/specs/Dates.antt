-- The date and the time of day of an instant, up to the seconds (RFC 3339, 5.6).
use Rattle.std.specs.Prelude.{ℕ, ◌+◌, ◌-◌, ◌^◌, suc, Bool, ◌&&◌, nat_le, nat_lt, List, ◌++◌, codes}
use Rattle.std.specs.Prelude.{ℤ, pos, negsuc}
use Rattle.std.specs.Fmt.{decimal}
use Rattle.dm_value.specs.declared.date.Utc.{Utc}
use Rattle.dm_value.specs.Dates.{two_digits}
use Rattle.dm_value.specs.Times.{from_1900_to_1970}

-- seconds since 1970 as seconds since 1900, 0 where they are before
abbrev pub since_1900 : ℤ → ℕ
since_1900 (pos n) = n + from_1900_to_1970
since_1900 (negsuc n) = from_1900_to_1970 - suc n

-- seconds since 1900 that a value of type Time has (RFC 6733, 4.3.1): 1968-01-20 03:14:08 to 2104-02-26 09:42:23 UTC
abbrev pub is_dated : ℕ → Bool
is_dated seconds = nat_le (2 ^ 31) seconds && nat_lt seconds (2 ^ 31 + 2 ^ 32)

-- as 2026-11-23
abbrev pub full_date : Utc → List ℕ
full_date utc = decimal utc.year ++ codes "-" ++ two_digits utc.month ++ codes "-" ++ two_digits utc.day

-- as 02:15:00
abbrev pub time_of_day : Utc → List ℕ
time_of_day utc = two_digits utc.hour ++ codes ":" ++ two_digits utc.minute ++ codes ":" ++ two_digits utc.second

-- as 2026-11-23T02:15:00
unfoldable pub date_and_time : Utc → List ℕ
date_and_time utc = full_date utc ++ codes "T" ++ time_of_day utc
