use Rattle.std.proofs.Common.{◌≡◌, ℤ, take}
use Rattle.std.specs.List.{position_from}
use Rattle.std.specs.Map.{lookup}
use Rattle.std.specs.Ordering.{int_eq}
use Rattle.dm_tables.specs.Listed.{has_number}
use Rattle.dm_tables.proofs.values.first_places_by_number.Given as goal

abbrev pub invariant-loop-value : goal.invariant-loop-value
invariant-loop-value l =
    (l.place ≡ l.value-index)
    × ((n : ℤ)
    → lookup (int_eq n) l.places.entries ≡ position_from (has_number n) 0 (take l.value-index l.values))
