use Rattle.dm_dict.specs.Seats.{IsSeatedTo}
use Rattle.dm_dict.proofs.seats.seats_of_rows.Given as goal

abbrev pub invariant-loop-place : goal.invariant-loop-place
invariant-loop-place l = IsSeatedTo l.rows l.place l.seats
