use Rattle.dm_two_nodes.proofs.Others.{others_leave_the_story}
use Rattle.dm_two_nodes.proofs.laws.steps_of_others_stay_out_of_history.Goals as goal

pub returns : goal.returns
returns c = others_leave_the_story
