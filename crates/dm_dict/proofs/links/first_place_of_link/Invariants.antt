use Rattle.std.proofs.Common.{◌≡◌, drop}
use Rattle.std.specs.List.{position_from}
use Rattle.dm_dict.specs.Rows.{has_link}
use Rattle.dm_dict.proofs.links.first_place_of_link.Given as goal

abbrev pub invariant-loop-place : goal.invariant-loop-place
invariant-loop-place l =
    position_from (has_link l.link) 0 l.rows ≡ position_from (has_link l.link) l.place (drop l.place l.rows)
