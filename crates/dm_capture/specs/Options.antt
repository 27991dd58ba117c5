-- Options of a block: two octets of code, two of length, and a value that is filled up to four octets.
use Rattle.std.specs.Prelude.{◌≡◌, ◌≢◌, ◌⊎◌, ℕ, ◌+◌, ◌*◌, ◌/◌, ◌<◌, ◌≤◌, nat_eq, Option, None, Some, if◌then◌else◌}
use Rattle.std.specs.Prelude.{List, [], ◌∷◌, length, take, drop}
use Rattle.dm_capture.specs.declared.order.Order.{Order}
use Rattle.dm_capture.specs.Numbers.{ordered_number}

pub record BlockOption : Type 0 where
  pub code : ℕ
  pub value : List ℕ

-- the octets of the value of the option at the front, and those of all of it
abbrev pub value_size : Order → List ℕ → ℕ
value_size order s = ordered_number order 2 (drop 2 s)

abbrev pub option_size : Order → List ℕ → ℕ
option_size order s = 4 + (value_size order s + 3) / 4 * 4

abbrev pub option_at : Order → List ℕ → BlockOption
option_at order s = record { code = ordered_number order 2 s; value = take (value_size order s) (drop 4 s) }

-- the options that s spells: they end at the code 0, or where no whole option is left
abbrev pub AreOptions : Order → List ℕ → List BlockOption → Type 0
AreOptions order s [] = (length s < 4) ⊎ (ordered_number order 2 s ≡ 0) ⊎ (length s < option_size order s)
AreOptions order s (option ∷ options) =
    (4 ≤ length s) × (ordered_number order 2 s ≢ 0) × (option_size order s ≤ length s) × (option ≡ option_at order s) ×
    AreOptions order (drop (option_size order s) s) options

-- the value of the first option with this code and so many octets
abbrev pub first_value : ℕ → ℕ → List BlockOption → Option (List ℕ)
first_value code size [] = None
first_value code size (option ∷ options) =
    if nat_eq option.code code then
    (if nat_eq (length option.value) size then Some option.value else first_value code size options)
    else first_value code size options
