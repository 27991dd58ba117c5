use Rattle.std.proofs.Common.{◌+◌, arith}
use Rattle.dm_world.proofs.Changed.{changed, not_changed, room_moves}
use Rattle.dm_world.proofs.links.send_on_link.Goals as goal

pub returns-then-index-len-clause-said : goal.returns-then-index-len-clause-said
returns-then-index-len-clause-said c =
    changed _ _ _ _ _ c.index_mut.ensures.value (omega (arith, c.args.links.now.ok.0)) c.send_message.ensures.said

pub returns-else-index-len-clause-said : goal.returns-else-index-len-clause-said
returns-else-index-len-clause-said c = not_changed _ _ _ (omega (arith, c.args.links.now.ok.0))

pub returns-then-index-len-clause-room : goal.returns-then-index-len-clause-room
returns-then-index-len-clause-room c =
    λ n d has. room_moves _ n (n + 1) _ d _ _ _ c.index_mut.ensures.value (omega arith)
    (λ h. omega (arith, c.send_message.ensures.room)) has
