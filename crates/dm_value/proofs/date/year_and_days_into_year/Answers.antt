use Rattle.std.proofs.Common.{arith, ◌∙◌, ◌-◌}
use Rattle.dm_value.specs.Dates.{days_of_year}
use Rattle.dm_value.proofs.Spans.{span_here, span_passed, span_last}
use Rattle.dm_value.proofs.date.year_and_days_into_year.Goals as goal

pub returns-then-left-length : goal.returns-then-left-length
returns-then-left-length c =
    span_here days_of_year (2104 - c.loop-year.year) _ _ _ c.days_in_year-length.ensures c.if-left-length.true
    ∙ c.loop-year.invariant

pub loop-year-preserved : goal.loop-year-preserved
loop-year-preserved c =
    span_passed days_of_year 2104 _ _ _ _ c.days_in_year-length.ensures c.if-left-length.false c.loop-year-test.true
    c.loop-year.invariant

pub returns : goal.returns
returns c = span_last days_of_year 2104 _ _ _ (omega arith) c.loop-year.invariant
