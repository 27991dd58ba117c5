use Rattle.std.proofs.Common.{◌∙◌}
use Rattle.dm_world.proofs.Restarts.{each_more, each_end}
use Rattle.dm_world.proofs.acks_and_restarts.close_each_link_at_restart.Goals as goal

pub loop-index-preserved : goal.loop-index-preserved
loop-index-preserved c = each_more _ _ _ _ _ c.loop-index-test.true c.close_link_at_restart.ensures ∙ c.loop-index.invariant

pub returns : goal.returns
returns c = each_end _ _ _ _ c.loop-index-test.false ∙ c.loop-index.invariant
