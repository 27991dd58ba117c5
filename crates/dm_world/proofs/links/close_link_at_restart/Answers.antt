use Rattle.std.proofs.Common.{arith}
use Rattle.dm_world.proofs.Changed.{changed, not_changed}
use Rattle.dm_world.proofs.links.close_link_at_restart.Goals as goal

pub returns-then-index-len : goal.returns-then-index-len
returns-then-index-len c =
    changed _ _ _ _ _ c.index_mut.ensures.value (omega (arith, c.args.links.now.ok.0)) c.close_unless_other_is_connecting.ensures

pub returns-else-index-len : goal.returns-else-index-len
returns-else-index-len c = not_changed _ _ _ (omega (arith, c.args.links.now.ok.0))
