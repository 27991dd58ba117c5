-- Lines that have their line feed.
use Rattle.std.specs.Prelude.{◌≡◌, ◌⊎◌, ℕ, ◌-◌, Bool, nat_eq, if◌then◌else◌}
use Rattle.std.specs.Prelude.{List, [], ◌∷◌, ◌++◌, length, slice_index_or}

-- no line lacks it
abbrev pub is_ended : List ℕ → Bool
is_ended s = nat_eq (slice_index_or s (length s - 1) 10) 10

-- with it, where the last line lacks it
abbrev pub ended : List ℕ → List ℕ
ended s = if is_ended s then s else s ++ 10 ∷ []

-- the same: there is none, or the last one ends with its line feed
abbrev pub HasLineEnds : List ℕ → Type 0
HasLineEnds s = (s ≡ []) ⊎ ((front : List ℕ) × (s ≡ front ++ 10 ∷ []))
