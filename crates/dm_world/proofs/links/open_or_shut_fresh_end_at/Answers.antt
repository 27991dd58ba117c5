use Rattle.std.proofs.Common.{arith}
use Rattle.dm_world.proofs.Changed.{changed, not_changed}
use Rattle.dm_world.proofs.links.open_or_shut_fresh_end_at.Goals as goal

pub returns-then-index-len : goal.returns-then-index-len
returns-then-index-len c =
    changed _ _ _ _ _ c.index_mut.ensures.value (omega (arith, c.args.links.now.ok.0)) c.open_or_shut_fresh_end.ensures

pub returns-else-index-len : goal.returns-else-index-len
returns-else-index-len c = not_changed _ _ _ (omega (arith, c.args.links.now.ok.0))
