-- The time from a first packet to another one, in nanoseconds.
use Rattle.std.specs.Prelude.{ℕ, suc, ◌*◌, ◌/◌, ◌%◌, ◌^◌, List, ◌++◌, codes, ℤ, pos, negsuc, ◌+ℤ◌, ◌-ℤ◌, ◌*ℤ◌}
use Rattle.std.specs.Fmt.{decimal}
use Rattle.dm_capture.specs.declared.time.Time.{Time}
use Rattle.dm_capture.specs.Times.{units_per_second}
use Rattle.dm_trace.specs.Digits.{last_digits}

-- the units on top of the seconds, rounded down
abbrev pub nanoseconds_of : Time → ℕ
nanoseconds_of time = time.fraction * 10 ^ 9 / units_per_second time.resolution

-- since 1970
abbrev pub instant_of : Time → ℤ
instant_of time = time.seconds *ℤ pos (10 ^ 9) +ℤ pos (nanoseconds_of time)

-- as 1.000000500
abbrev pub seconds_text : ℕ → List ℕ
seconds_text n = decimal (n / 10 ^ 9) ++ codes "." ++ last_digits 9 (n % 10 ^ 9)

-- as -1.000000500 where they are below 0
abbrev pub signed_seconds_text : ℤ → List ℕ
signed_seconds_text (pos n) = seconds_text n
signed_seconds_text (negsuc n) = codes "-" ++ seconds_text (suc n)

abbrev pub elapsed_text : Time → Time → List ℕ
elapsed_text first time = signed_seconds_text (instant_of time -ℤ instant_of first)
