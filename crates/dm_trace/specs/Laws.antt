-- What the text of an instant says, by the values of type Time and as these are displayed.
use Rattle.std.specs.Prelude.{◌≡◌, ◌≢◌, ◌<◌, ◌^◌, ◌⊎◌, ℕ, List, ◌++◌, codes}
use Rattle.std.specs.Fmt.{signed_decimal}
use Rattle.dm_capture.specs.declared.time.Time.{Time}
use Rattle.dm_value.specs.Dates.{from_1900, utc_at, utc_text}
use Rattle.dm_value.specs.Times.{unix_time}
use Rattle.dm_trace.specs.Times.{fraction_text, instant_text}

-- the date of a value of type Time that has the same seconds, as it is displayed, with the fraction before its Z
pub record SaysDate (time : Time) (text : List ℕ) : Type 0 where
  pub t : ℕ
  pub front : List ℕ
  pub fits : t < 2 ^ 32
  pub same : unix_time t ≡ time.seconds
  pub displayed : utc_text (utc_at (from_1900 t)) ≡ front ++ codes "Z"
  pub said : text ≡ front ++ fraction_text time ++ codes "Z"

-- the seconds since 1970 where no such value has them
pub record SaysSeconds (time : Time) (text : List ℕ) : Type 0 where
  pub none : (t : ℕ) → t < 2 ^ 32 → unix_time t ≢ time.seconds
  pub said : text ≡ signed_decimal time.seconds ++ fraction_text time

abbrev pub SaysInstant : Time → List ℕ → Type 0
SaysInstant time text = SaysDate time text ⊎ SaysSeconds time text

abbrev pub EachInstantIsSaid : Type 0
EachInstantIsSaid = (time : Time) → SaysInstant time (instant_text time)

abbrev pub OneInstantText : Type 0
OneInstantText = (time : Time) (text : List ℕ) → SaysInstant time text → text ≡ instant_text time
