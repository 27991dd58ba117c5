-- A second has units.
use Rattle.std.proofs.Common.{◌≡◌, ◌<◌, ◌*◌, ◌/◌, ◌^◌, ℕ, sym, arith}
use Rattle.std.proofs.Math.Nat.{one-le-pow, div-eq_of_lt}
use Rattle.dm_capture.specs.declared.time.Resolution.{Resolution}
use Rattle.dm_capture.specs.declared.time.Resolution.TheVariants.{Decimal, Binary}
use Rattle.dm_capture.specs.Times.{units_per_second}

pub second_has_units : (resolution : Resolution) → 0 < units_per_second resolution
second_has_units (Decimal power) = one-le-pow power 10 (omega arith)
second_has_units (Binary power) = one-le-pow power 2 (omega arith)

-- where a second has very many units, they come to less than a nanosecond
pub less_than_one : (resolution : Resolution) (fraction : ℕ) → fraction < 2 ^ 64
    → (units_per_second resolution < 2 ^ 128 → ⊥) → 0 ≡ fraction * 10 ^ 9 / units_per_second resolution
less_than_one resolution fraction fits many =
    let below : fraction * 10 ^ 9 < units_per_second resolution = omega (arith, fits, many) in
    sym (div-eq_of_lt below)
