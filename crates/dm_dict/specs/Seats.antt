-- Seats: which entry of a rule may name the AVPs of a code, by the code's lowest bits.
use Rattle.std.specs.Prelude.{◌≡◌, ◌<◌, ◌%◌, ℕ, nat_eq, nat_lt, ◌&&◌, true, Option, None, Some, List, length, take}
use Rattle.std.specs.Prelude.{slice_index, slice_index_or, if◌then◌else◌}
use Rattle.std.specs.List.{position_from}
use Rattle.dm_dict.specs.declared.rows.Row.{Row}
use Rattle.dm_dict.specs.Limits.{seat_slots}
use Rattle.dm_dict.specs.Rows.{names_avps}

-- the seat of a slot whose bits no linked entry's code has
abbrev pub empty_seat : ℕ
empty_seat = 255

-- the seat of one that several may have, of which nothing is said
abbrev pub crowded : ℕ
crowded = 254

-- the seat of a slot behind the entry at a place: the first linked entry of a slot takes it, if AVPs may stand there;
-- another one crowds it
abbrev pub seat_with : Row → ℕ → ℕ → ℕ → ℕ
seat_with row place slot seat =
    if row.linked && nat_eq (row.code % seat_slots) slot
    then (if (nat_eq seat empty_seat && nat_lt place crowded) && row.allowed then place else crowded) else seat

-- which of the first n entries names the AVPs of a code and vendor: none, where its seat is empty; the one at the
-- seat, which is linked and allows AVPs, or none, where it isn't crowded
pub record IsSeat (rows : List Row) (n code : ℕ) (vendor : Option ℕ) (seat : ℕ) : Type 0 where
  pub none : crowded < seat → position_from (names_avps code vendor) 0 (take n rows) ≡ None
  pub within : seat < crowded → seat < n
  pub allowing : seat < crowded → (row : Row) → row ≡ slice_index_or rows seat row → (row.linked && row.allowed) ≡ true
  pub one : seat < crowded → (row : Row) → row ≡ slice_index_or rows seat row
      → position_from (names_avps code vendor) 0 (take n rows)
      ≡ (if names_avps code vendor row then Some seat else None)

-- so it is for each code and vendor, among the first n entries
abbrev pub IsSeatedTo : List Row → ℕ → List ℕ → Type 0
IsSeatedTo rows n seats =
    (code : ℕ) (vendor : Option ℕ) → IsSeat rows n code vendor (slice_index seats (code % seat_slots))

-- and among all
abbrev pub IsSeated : List Row → List ℕ → Type 0
IsSeated rows seats = IsSeatedTo rows (length rows) seats
