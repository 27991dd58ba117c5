use Rattle.std.proofs.Common.{arith, ◌∙◌, ◌-◌}
use Rattle.dm_value.specs.Dates.{days_of_month}
use Rattle.dm_value.proofs.Spans.{span_here, span_passed, span_last}
use Rattle.dm_value.proofs.date.month_and_days_into_month.Goals as goal

pub returns-then-left-length : goal.returns-then-left-length
returns-then-left-length c =
    span_here (days_of_month c.args.year) (12 - c.loop-month.month) _ _ _ c.days_in_month-length.ensures
    c.if-left-length.true
    ∙ c.loop-month.invariant

pub loop-month-preserved : goal.loop-month-preserved
loop-month-preserved c =
    span_passed (days_of_month c.args.year) 12 _ _ _ _ c.days_in_month-length.ensures c.if-left-length.false
    c.loop-month-test.true c.loop-month.invariant

pub returns : goal.returns
returns c = span_last (days_of_month c.args.year) 12 _ _ _ (omega arith) c.loop-month.invariant
