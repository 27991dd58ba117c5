-- A second has units, and where it has more than 64 bits count, a time is less than a second.
use Rattle.std.proofs.Common.{◌≡◌, ◌<◌, ℕ, ◌/◌, ◌%◌, ◌^◌, sym, ◌∙◌, ap, arith}
use Rattle.std.proofs.Math.Nat.{one-le-pow, div-eq_of_lt, mod-eq_of_lt}
use Rattle.dm_capture.specs.declared.time.Resolution.{Resolution}
use Rattle.dm_capture.specs.declared.time.Resolution.TheVariants.{Decimal, Binary}
use Rattle.dm_capture.specs.Times.{units_per_second}

pub second_has_units : (resolution : Resolution) → 0 < units_per_second resolution
second_has_units (Decimal power) = one-le-pow power 10 (omega arith)
second_has_units (Binary power) = one-le-pow power 2 (omega arith)

below_second : (resolution : Resolution) (units : ℕ) → units < 2 ^ 64 → (units_per_second resolution < 2 ^ 64 → ⊥) →
    units < units_per_second resolution
below_second resolution units fits long = omega (arith, long)

abbrev pub pair : ℕ → ℕ → ℕ × ℕ
pair a b = (a, b)

same_pair : (a b c d : ℕ) → a ≡ b → c ≡ d → pair a c ≡ pair b d
same_pair a b c d e f = ap (λ n. pair n c) e ∙ ap (λ n. pair b n) f

pub pair_of_long : (resolution : Resolution) (units : ℕ) → units < 2 ^ 64 →
    (units_per_second resolution < 2 ^ 64 → ⊥) →
    pair 0 units ≡ pair (units / units_per_second resolution) (units % units_per_second resolution)
pair_of_long resolution units fits long =
    let below = below_second resolution units fits long in
    same_pair 0 (units / units_per_second resolution) units (units % units_per_second resolution)
    (sym (div-eq_of_lt below)) (sym (mod-eq_of_lt below))
