-- The bounds of the entries of a rule, as a counter that stops at 65535 tells them.
use Rattle.std.specs.Prelude.{◌≡◌, ◌<◌, ◌≤◌, ◌-◌, ◌/◌, ◌%◌, ◌++◌, ℕ, min, nat_lt, nat_eq, Option, None, Some}
use Rattle.std.specs.Prelude.{List, length, map, drop, replicate, slice_index, take, if◌then◌else◌}
use Rattle.dm_tables.specs.declared.rule.Entry.{Entry}
use Rattle.dm_dict.specs.Limits.{counter_limit}
use Rattle.dm_dict.specs.declared.bounds.Bounds.TheInside.{Inside}

-- the least counter that keeps an entry, and the greatest: a counter that stopped tells of no maximum
abbrev pub least_bound : Entry → ℕ
least_bound e = min e.min counter_limit

abbrev pub most_under : Option ℕ → ℕ
most_under None = counter_limit
most_under (Some max) = if nat_eq max 0 then counter_limit else min max (counter_limit - 1)

-- none is as small, where no counter tells of so great a minimum
abbrev pub greatest_bound : Entry → ℕ
greatest_bound e = if nat_lt counter_limit e.min then 0 else most_under e.max

-- how many more make eights
abbrev pub short_of_eights : ℕ → ℕ
short_of_eights size = (8 - size % 8) % 8

-- as many more of 0
abbrev pub in_eights : List ℕ → List ℕ
in_eights lanes = lanes ++ replicate (short_of_eights (length lanes)) 0

pub record LaneBounds : Type 0 where
  pub mins : List ℕ
  pub maxs : List ℕ

-- the bounds of the entries of a rule
abbrev pub rule_bounds : List Entry → LaneBounds
rule_bounds rule = record { mins = in_eights (map least_bound rule); maxs = in_eights (map greatest_bound rule) }

-- what is told of the entries, in so many lanes
abbrev pub in_lanes : (Entry → ℕ) → List Entry → ℕ → List ℕ
in_lanes f rule room = map f rule ++ replicate (room - length rule) 0

-- lanes of which half are the least ones
abbrev pub shown_bounds : List ℕ → LaneBounds
shown_bounds lanes = record { mins = take (length lanes / 2) lanes; maxs = drop (length lanes / 2) lanes }

-- there are eights of both
pub record AreEights (bounds : Inside) : Type 0 where
  pub eights : length bounds.lanes.items % 16 ≡ 0

-- the first n counters lie within their bounds
abbrev pub WithinTo : ℕ → List ℕ → List ℕ → List ℕ → Type 0
WithinTo n mins maxs counters =
    (i : ℕ) → i < n → (slice_index mins i ≤ slice_index counters i) × (slice_index counters i ≤ slice_index maxs i)

abbrev pub AreWithin : LaneBounds → List ℕ → Type 0
AreWithin bounds counters = WithinTo (length bounds.mins) bounds.mins bounds.maxs counters
