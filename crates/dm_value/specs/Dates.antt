-- The date and the time of day of an instant (UTC), by the Gregorian calendar.
use Rattle.std.specs.Prelude.{◌≡◌, ◌≤◌, ◌<◌, ◌+◌, ◌-◌, ◌*◌, ◌/◌, ◌%◌, ◌^◌, ℕ, zero, suc, Bool}
use Rattle.std.specs.Prelude.{◌&&◌, ◌||◌, not, nat_eq, nat_lt, if◌then◌else◌, List, ◌++◌, codes}
use Rattle.std.specs.Fmt.{decimal}
use Rattle.dm_value.specs.declared.date.Utc.{Utc}

-- a year of 366 days: 4 divides it; of the hundreds those alone that 400 divides
abbrev pub is_leap : ℕ → Bool
is_leap year = nat_eq (year % 4) 0 && (not (nat_eq (year % 100) 0) || nat_eq (year % 400) 0)

abbrev pub days_of_year : ℕ → ℕ
days_of_year year = if is_leap year then 366 else 365

-- April, June, September and November
abbrev pub is_short : ℕ → Bool
is_short month = nat_eq month 4 || nat_eq month 6 || nat_eq month 9 || nat_eq month 11

-- months from 1 to 12
abbrev pub days_of_month : ℕ → ℕ → ℕ
days_of_month year month =
    if nat_eq month 2 then (if is_leap year then 29 else 28) else (if is_short month then 30 else 31)

-- the days of so many years, or months, from the first on
unfoldable pub days_in : (ℕ → ℕ) → ℕ → ℕ → ℕ
days_in days first zero = 0
days_in days first (suc count) = days first + days_in days (first + 1) count

-- the seconds since 1900-01-01 00:00 UTC of a value of type Time (RFC 6733, 4.3.1)
abbrev pub from_1900 : ℕ → ℕ
from_1900 t = if nat_lt t (2 ^ 31) then t + 2 ^ 32 else t

-- the date and time are those of the instant, so many seconds after 1900-01-01 00:00 UTC: the whole years before it,
-- the whole months of its year, the whole days of its month, and its seconds
pub record IsInstant (seconds : ℕ) (utc : Utc) : Type 0 where
  pub years : 1900 ≤ utc.year
  pub month : (1 ≤ utc.month) × (utc.month ≤ 12)
  pub day : (1 ≤ utc.day) × (utc.day ≤ days_of_month utc.year utc.month)
  pub hour : utc.hour < 24
  pub minute : utc.minute < 60
  pub second : utc.second < 60
  pub whole : seconds ≡
      ((days_in days_of_year 1900 (utc.year - 1900)
      + days_in (days_of_month utc.year) 1 (utc.month - 1) + (utc.day - 1)) * 24
      + utc.hour) * 3600 + utc.minute * 60 + utc.second

-- of the years, or months, from the first on, and so many more at most: the one in which day n lies, and the days of it
-- in front of that day
unfoldable pub span_at : (ℕ → ℕ) → ℕ → ℕ → ℕ → ℕ × ℕ
span_at days zero first n = (first, n)
span_at days (suc more) first n =
    if nat_lt n (days first) then (first, n) else span_at days more (first + 1) (n - days first)

abbrev pub year_at : ℕ → ℕ × ℕ
year_at n = span_at days_of_year 204 1900 n

abbrev pub month_at : ℕ → ℕ → ℕ × ℕ
month_at year n = span_at (days_of_month year) 11 1 n

-- a year with the days of it that are over, and the seconds of the day that are over
abbrev pub utc_of : ℕ × ℕ → ℕ × ℕ → ℕ → Utc
utc_of year month seconds =
    record {
      year = year.0;
      month = month.0;
      day = month.1 + 1;
      hour = seconds / 3600;
      minute = seconds / 60 % 60;
      second = seconds % 60;
    }

abbrev pub utc_in : ℕ × ℕ → ℕ → Utc
utc_in year seconds = utc_of year (month_at year.0 year.1) seconds

-- the date and time of day so many seconds after 1900-01-01 00:00 UTC, up to the year 2104
abbrev pub utc_at : ℕ → Utc
utc_at seconds = utc_in (year_at (seconds / 86400)) (seconds % 86400)

-- two decimal digits of a number below 100
unfoldable pub two_digits : ℕ → List ℕ
two_digits n = decimal (n / 10) ++ decimal (n % 10)

-- as 2026-11-23T02:15:00Z (RFC 3339)
abbrev pub utc_text : Utc → List ℕ
utc_text utc =
    decimal utc.year ++ codes "-" ++ two_digits utc.month ++ codes "-" ++ two_digits utc.day ++ codes "T"
    ++ two_digits utc.hour ++ codes ":" ++ two_digits utc.minute ++ codes ":" ++ two_digits utc.second ++ codes "Z"
