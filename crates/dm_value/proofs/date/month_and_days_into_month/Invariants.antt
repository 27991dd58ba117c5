use Rattle.std.proofs.Common.{◌≡◌, ◌-◌}
use Rattle.dm_value.specs.Dates.{days_of_month, month_at, span_at}
use Rattle.dm_value.proofs.date.month_and_days_into_month.Given as goal

-- from this month on the rest of the days is still to be placed
abbrev pub invariant-loop-month : goal.invariant-loop-month
invariant-loop-month l = span_at (days_of_month l.fn.year) (12 - l.month) l.month l.left ≡ month_at l.fn.year l.fn.days
