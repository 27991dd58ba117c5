-- When a packet was captured.
use Rattle.std.specs.Prelude.{ℕ, ◌+◌, ◌-◌, ◌/◌, ◌%◌, ◌^◌, nat_lt, if◌then◌else◌}
use Rattle.std.specs.Int.{w64, cast_signed}
use Rattle.dm_capture.specs.declared.time.Resolution.{Resolution}
use Rattle.dm_capture.specs.declared.time.Resolution.TheVariants.{Decimal, Binary}
use Rattle.dm_capture.specs.declared.time.Time.{Time}

-- how many units a second has
abbrev pub units_per_second : Resolution → ℕ
units_per_second (Decimal power) = 10 ^ power
units_per_second (Binary power) = 2 ^ power

-- what the octet of if_tsresol says: where its highest bit is set a power of 2, else of 10
abbrev pub resolution_of : ℕ → Resolution
resolution_of octet = if nat_lt octet 128 then Decimal octet else Binary (octet - 128)

-- the time that is so many units after an offset in seconds. Seconds are two's complement, modulo 2^64.
abbrev pub time_of : Resolution → ℕ → ℕ → Time
time_of resolution offset units = record {
  seconds = cast_signed w64 ((offset + units / units_per_second resolution) % 2 ^ 64);
  fraction = units % units_per_second resolution;
  resolution = resolution;
}
