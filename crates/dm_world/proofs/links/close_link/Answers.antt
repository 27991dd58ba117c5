use Rattle.std.proofs.Common.{arith}
use Rattle.dm_world.proofs.Changed.{changed, not_changed, room_moves}
use Rattle.dm_world.proofs.links.close_link.Goals as goal

pub returns-then-index-len-clause-closed : goal.returns-then-index-len-clause-closed
returns-then-index-len-clause-closed c =
    changed _ _ _ _ _ c.index_mut.ensures.value (omega (arith, c.args.links.now.ok.0)) c.close.ensures.closed

pub returns-else-index-len-clause-closed : goal.returns-else-index-len-clause-closed
returns-else-index-len-clause-closed c = not_changed _ _ _ (omega (arith, c.args.links.now.ok.0))

pub returns-then-index-len-clause-room : goal.returns-then-index-len-clause-room
returns-then-index-len-clause-room c =
    λ n d has. room_moves _ n n _ d _ _ _ c.index_mut.ensures.value (omega arith)
    (λ h. omega (arith, c.close.ensures.room)) has
