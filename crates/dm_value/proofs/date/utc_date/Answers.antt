use Rattle.std.proofs.Common.{rules, arith}
use Rattle.dm_value.proofs.Instants.{instant, day_fits, early}
use Rattle.dm_value.proofs.date.utc_date.Goals as goal

pub overflow_add-result : goal.overflow_add-result
overflow_add-result c =
    let year = c.year_and_days_into_year-year.ensures in
    let month = c.month_and_days_into_month-month.ensures in
    let fits = day_fits c.args.seconds _ _ _ (search rules) c.seconds_since_1900-instant.ensures year month in
    omega arith

pub returns-clause-instant : goal.returns-clause-instant
returns-clause-instant c = search (rules, instant, early)
