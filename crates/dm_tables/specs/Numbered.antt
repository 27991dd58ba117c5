-- Where the values of each number stand in a list of values.
use Rattle.std.specs.Prelude.{◌≡◌, ◌<◌, ℕ, ℤ, length, if◌then◌else◌, is_some, List}
use Rattle.std.specs.List.{position_from}
use Rattle.std.specs.Map.{lookup}
use Rattle.std.specs.Ordering.{int_eq}
use Rattle.indexmap.specs.IndexMap.{insert_entry}
use Rattle.dm_tables.specs.declared.values.Values.TheInside.{Inside}
use Rattle.dm_tables.specs.Limits.{short_list}
use Rattle.dm_tables.specs.Listed.{has_number}

-- in a long list under each number is the place of the first value that has it
abbrev pub IsNumbered : Inside → Type 0
IsNumbered values = short_list < length values.items.items → (n : ℤ) → lookup (int_eq n) values.places.entries
    ≡ position_from (has_number n) 0 values.items.items

-- a place under its number, if there is none yet
abbrev pub with_place : List (ℤ × ℕ) → ℤ → ℕ → List (ℤ × ℕ)
with_place places n place =
    if is_some (lookup (int_eq n) places) then places else insert_entry int_eq places n place
