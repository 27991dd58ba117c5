use Rattle.std.proofs.Common.{arith}
use Rattle.dm_world.proofs.Changed.{on_ok, same_links, room_here, room_past, room_moves}
use Rattle.dm_world.proofs.links.reserve_on_link.Goals as goal

pub returns-then-index-len-clause-same : goal.returns-then-index-len-clause-same
returns-then-index-len-clause-same c = same_links _ _ _ _ c.index_mut.ensures.value c.reserve.ensures.same

pub returns-then-index-len-clause-room : goal.returns-then-index-len-clause-room
returns-then-index-len-clause-room c =
    on_ok c.reserve.result (λ h. room_here _ c.args.count c.args.index c.args.links.now.items c.reserve.new.self h)
    c.reserve.ensures.room

pub returns-then-index-len-clause-kept : goal.returns-then-index-len-clause-kept
returns-then-index-len-clause-kept c =
    λ n d has. room_moves _ n n _ d _ _ _ c.index_mut.ensures.value (omega arith)
    (λ h. omega (arith, c.reserve.ensures.kept)) has

pub returns-else-index-len-clause-room : goal.returns-else-index-len-clause-room
returns-else-index-len-clause-room c = room_past _ c.args.count c.args.index c.args.links.now.items
    (omega (arith, c.args.links.now.ok.0))
