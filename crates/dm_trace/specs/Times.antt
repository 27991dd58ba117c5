-- When a packet was captured, as text.
use Rattle.std.specs.Prelude.{ℕ, ◌%◌, ◌^◌, List, [], ◌++◌, codes, nat_eq, Option, None, Some, if◌then◌else◌}
use Rattle.std.specs.Fmt.{signed_decimal}
use Rattle.dm_capture.specs.declared.time.Resolution.{Resolution}
use Rattle.dm_capture.specs.declared.time.Resolution.TheVariants.{Decimal, Binary}
use Rattle.dm_capture.specs.declared.time.Time.{Time}
use Rattle.dm_value.specs.Dates.{utc_at}
use Rattle.dm_trace.specs.declared.time.Clock.{Clock}
use Rattle.dm_trace.specs.declared.time.Clock.TheVariants.{Utc, Since}
use Rattle.dm_trace.specs.Dates.{since_1900, is_dated, date_and_time}
use Rattle.dm_trace.specs.Digits.{last_digits}
use Rattle.dm_trace.specs.Elapsed.{nanoseconds_of, elapsed_text}

-- the fraction of a second: of a power of ten all its digits, of a power of two nine, rounded down
abbrev pub fraction_by : Resolution → Time → List ℕ
fraction_by (Decimal power) time = if nat_eq power 0 then [] else codes "." ++ last_digits power time.fraction
fraction_by (Binary power) time = codes "." ++ last_digits 9 (nanoseconds_of time % 10 ^ 9)

abbrev pub fraction_text : Time → List ℕ
fraction_text time = fraction_by time.resolution time

-- the date and the time of day (RFC 3339, 5.6), or the seconds since 1970 where no value of type Time has them
abbrev pub instant_text : Time → List ℕ
instant_text time =
    if is_dated (since_1900 time.seconds)
    then date_and_time (utc_at (since_1900 time.seconds)) ++ fraction_text time ++ codes "Z"
    else signed_decimal time.seconds ++ fraction_text time

-- as it is said
abbrev pub clock_text : Clock → Time → List ℕ
clock_text Utc time = instant_text time
clock_text (Since first) time = elapsed_text first time

-- `-` where it isn't known
abbrev pub when_text : Clock → Option Time → List ℕ
when_text clock None = codes "-"
when_text clock (Some time) = clock_text clock time
