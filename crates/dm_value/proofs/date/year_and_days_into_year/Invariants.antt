use Rattle.std.proofs.Common.{◌≡◌, ◌-◌}
use Rattle.dm_value.specs.Dates.{days_of_year, year_at, span_at}
use Rattle.dm_value.proofs.date.year_and_days_into_year.Given as goal

-- from this year on the rest of the days is still to be placed
abbrev pub invariant-loop-year : goal.invariant-loop-year
invariant-loop-year l = span_at days_of_year (2104 - l.year) l.year l.left ≡ year_at l.fn.days
