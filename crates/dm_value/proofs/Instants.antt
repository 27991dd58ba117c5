-- The date and time of an instant are its own.
use Rattle.std.proofs.Common.{◌≡◌, ◌<◌, ◌≤◌, ◌+◌, ◌*◌, ◌/◌, ◌%◌, ◌^◌, ℕ, Bool, true, false, cond, nat_eq, nat_lt, refl, arith}
use Rattle.std.proofs.lemmas.Bool.{ltb-true}
use Rattle.dm_value.specs.Dates.{from_1900, days_in, days_of_year, days_of_month, is_leap, is_short, year_at, month_at, utc_at, IsInstant}
use Rattle.dm_value.proofs.Spans.{placed}

-- a year's months have the days of the year
pub months_of_year : (year : ℕ) → days_of_year year ≡ days_in (days_of_month year) 1 12
unfolding days_in
months_of_year year = by (is_leap year)
  where
    in_months : Bool → ℕ → ℕ
    in_months leap month = cond (nat_eq month 2) (cond leap 29 28) (cond (is_short month) 30 31)

    by : (leap : Bool) → cond leap 366 365 ≡ days_in (in_months leap) 1 12
    by true = refl
    by false = refl

pub time_of_day : (t : ℕ) → t ≡ t / 3600 * 3600 + t / 60 % 60 * 60 + t % 60
time_of_day t = omega arith

pub years_last : (days : ℕ) → days < 74875 → (year_at days).1 < days_of_year (year_at days).0
unfolding days_in
years_last days few = (placed days_of_year 204 1900 days).within few

pub months_last : (year n : ℕ) → n < days_of_year year → (month_at year n).1 < days_of_month year (month_at year n).0
months_last year n few = (placed (days_of_month year) 11 1 n).within (rw (← months_of_year year) few)

pub instant : (seconds : ℕ) → seconds < 2 ^ 32 + 2 ^ 31 → IsInstant seconds (utc_at seconds)
instant seconds early =
    let days = seconds / 86400 in
    let y = placed days_of_year 204 1900 days in
    let in_year = years_last days (omega arith) in
    let m = placed (days_of_month (year_at days).0) 11 1 (year_at days).1 in
    let in_month = months_last (year_at days).0 (year_at days).1 in_year in
    let time = time_of_day (seconds % 86400) in
    record {
      years = y.least;
      month = (m.least, omega arith);
      day = (omega arith, omega arith);
      hour = omega arith;
      minute = omega arith;
      second = omega arith;
      whole = omega arith;
    }

-- the instants of a value of type Time
pub early : (t : ℕ) → t < 2 ^ 32 → from_1900 t < 2 ^ 32 + 2 ^ 31
early t fits = by (nat_lt t (2 ^ 31)) refl
  where
    by : (b : Bool) → nat_lt t (2 ^ 31) ≡ b → cond b (t + 2 ^ 32) t < 2 ^ 32 + 2 ^ 31
    by true is = let below = ltb-true t (2 ^ 31) is in omega arith
    by false is = omega arith

few_days : (year : ℕ) → days_of_year year ≤ 366
few_days year = by (is_leap year)
  where
    by : (leap : Bool) → cond leap 366 365 ≤ 366
    by true = omega arith
    by false = omega arith

day_is_few : (instant : ℕ) → instant < 2 ^ 32 + 2 ^ 31
    → (month_at (year_at (instant / 86400)).0 (year_at (instant / 86400)).1).1 + 1 < 2 ^ 32
day_is_few instant early =
    let days = instant / 86400 in
    let year = year_at days in
    let in_year = years_last days (omega arith) in
    let month = (placed (days_of_month year.0) 11 1 year.1).whole in
    let few = few_days year.0 in
    omega arith

-- the day of the month, plus one, is a number of 32 bits
pub day_fits : (t instant : ℕ) (year month : ℕ × ℕ)
    → t < 2 ^ 32 → instant ≡ from_1900 t → year ≡ year_at (instant / 86400)
    → month ≡ month_at year.0 year.1 → month.1 + 1 < 2 ^ 32
day_fits t instant year month fits e f g = rw (g, f, e) (day_is_few (from_1900 t) (early t fits))
