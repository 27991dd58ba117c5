use Rattle.std.proofs.Common.{◌≡◌, ℕ, Some, nat_eq, take}
use Rattle.std.specs.List.{position_from}
use Rattle.indexmap.specs.IndexMap.{get_by}
use Rattle.dm_dict.specs.Rows.{has_link}
use Rattle.dm_dict.proofs.links.first_place_of_each_link.Given as goal

abbrev pub invariant-loop-place : goal.invariant-loop-place
invariant-loop-place l =
    (k : ℕ) → get_by (nat_eq k) l.places ≡ position_from (has_link (Some k)) 0 (take l.place l.rows)
