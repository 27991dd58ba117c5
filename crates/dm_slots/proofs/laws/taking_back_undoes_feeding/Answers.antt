-- The law as it is proved of intakes.
use Rattle.dm_slots.proofs.Taken.{taking_back_undoes}
use Rattle.dm_slots.proofs.laws.taking_back_undoes_feeding.Goals as goal

pub returns : goal.returns
returns c = taking_back_undoes
