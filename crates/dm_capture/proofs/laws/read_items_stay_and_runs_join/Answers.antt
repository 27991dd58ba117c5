-- The laws as they are proved for runs of items.
use Rattle.dm_capture.proofs.Files.{cuts, joins}
use Rattle.dm_capture.proofs.laws.read_items_stay_and_runs_join.Goals as goal

pub returns-clause-stays : goal.returns-clause-stays
returns-clause-stays c = cuts

pub returns-clause-joins : goal.returns-clause-joins
returns-clause-joins c = joins
