use Rattle.dm_machine.proofs.ShapeLaw.{each_step}
use Rattle.dm_machine.proofs.laws.steps_keep_shape_in_few_commands.Goals as goal

pub returns : goal.returns
returns c = each_step
