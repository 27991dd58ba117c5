use Rattle.std.proofs.Common.{take}
use Rattle.dm_world.proofs.Runs.{ran_none, ran_more, ran_still, ended_at}
use Rattle.dm_world.proofs.world.World.apply_up_to_fault.Goals as goal

pub loop-count-init : goal.loop-count-init
loop-count-init c = ran_none c.args.self.now c.args.list.now

pub loop-count-preserved : goal.loop-count-preserved
loop-count-preserved c =
    ran_more c.in_default.field-0 c.args.self.now c.loop-count.self c.apply.new.self c.args.list.now c.loop-count.count
    c.index-list-count.result c.loop-count.invariant c.loop-count-test.true c.index-list-count.is
    c.in_default.ensures.step

pub returns-in-Err-clause-ran : goal.returns-in-Err-clause-ran
returns-in-Err-clause-ran c =
    ran_still c.args.self.now c.loop-count.self c.apply.new.self (take c.loop-count.count c.args.list.now)
    c.in-Err.ensures.unchanged c.loop-count.invariant

pub returns-in-Err-clause-ended : goal.returns-in-Err-clause-ended
returns-in-Err-clause-ended c =
    ended_at c.in-Err.fault c.loop-count.self c.apply.new.self c.args.list.now c.loop-count.count
    c.index-list-count.result c.loop-count-test.true c.index-list-count.is c.in-Err.ensures.unchanged
    c.in-Err.ensures.fault
