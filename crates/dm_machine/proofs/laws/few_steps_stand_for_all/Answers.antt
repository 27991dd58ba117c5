use Rattle.dm_machine.proofs.EachStepLaw.{each_step_holds}
use Rattle.dm_machine.proofs.laws.few_steps_stand_for_all.Goals as goal

pub returns : goal.returns
returns c = each_step_holds
