use Rattle.dm_machine.proofs.StrangerLaw.{turns_strangers_away}
use Rattle.dm_machine.proofs.laws.only_good_cers_admit_strangers.Goals as goal

pub returns : goal.returns
returns c = turns_strangers_away
