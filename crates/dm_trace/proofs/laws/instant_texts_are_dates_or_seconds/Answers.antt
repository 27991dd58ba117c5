-- The laws as they are proved for instants.
use Rattle.dm_trace.proofs.Dated.{each_said, one_said}
use Rattle.dm_trace.proofs.laws.instant_texts_are_dates_or_seconds.Goals as goal

pub returns-clause-each : goal.returns-clause-each
returns-clause-each c = each_said

pub returns-clause-one : goal.returns-clause-one
returns-clause-one c = one_said
