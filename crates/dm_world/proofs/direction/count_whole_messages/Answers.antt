use Rattle.std.proofs.Common.{◌≡◌, ◌<◌, ◌≤◌, length, arith, subst}
use Rattle.dm_world.proofs.Whole.{AreWhole, whole_more, whole_stop, whole_end}
use Rattle.dm_world.proofs.direction.count_whole_messages.Goals as goal

pub loop-index-preserved : goal.loop-index-preserved
loop-index-preserved c =
    let h : c.loop-index.index < length c.args.queue.now.items = omega (arith, c.args.queue.now.ok.0) in
    whole_more _ _ _ _ c.index.result.now _ c.loop-index.invariant h c.as_slice-size.ensures c.index.ensures
    c.if-size-rest.false

pub returns-then-size-rest : goal.returns-then-size-rest
returns-then-size-rest c =
    let h : c.loop-index.index < length c.args.queue.now.items = omega (arith, c.args.queue.now.ok.0) in
    whole_stop _ _ _ _ c.index.result.now _ c.loop-index.invariant h c.as_slice-size.ensures c.index.ensures
    c.if-size-rest.true

pub returns : goal.returns
returns c =
    let index_len : c.loop-index.index ≡ c.len.result = omega arith in
    let h : length c.args.queue.now.items ≤ c.len.result = omega (arith, c.args.queue.now.ok.0) in
    whole_end _ _ _ _
    (subst (λ n. AreWhole n c.loop-index.rest c.args.kept c.args.queue.now.items) index_len c.loop-index.invariant)
    h
