-- Marks of lanes, of which none is where each is 0, and lanes that go no further than others.
use Rattle.std.specs.Prelude.{◌<◌, ◌≤◌, ℕ, Bool, nat_eq, List, length, slice_index}
use Rattle.std.specs.List.{list_all}

abbrev pub is_unmarked : List ℕ → Bool
is_unmarked marks = list_all (λ mark. nat_eq mark 0) marks

-- each lane is no more than the one beside it
abbrev pub AreUnder : List ℕ → List ℕ → Type 0
AreUnder lanes others = (i : ℕ) → i < length lanes → slice_index lanes i ≤ slice_index others i
