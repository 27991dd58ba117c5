use Rattle.std.proofs.Common.{sym, ◌∙◌}
use Rattle.dm_world.proofs.Quiets.{quiet_all, quiet_more, quiet_no, quiet_end}
use Rattle.dm_world.proofs.links.are_quiet.Goals as goal

pub loop-link-init : goal.loop-link-init
loop-link-init c = quiet_all c.args.links.now

pub loop-link-preserved : goal.loop-link-preserved
loop-link-preserved c =
    c.loop-link.invariant ∙ quiet_more _ _ c.link-item.result c.loop-link-test.true c.link-item.is
    (sym c.is_quiet.ensures ∙ c.if-not-is_quiet.false)

pub returns : goal.returns
returns c = sym (c.loop-link.invariant ∙ quiet_end _ _ c.loop-link-test.false)

pub returns-then-not-is_quiet : goal.returns-then-not-is_quiet
returns-then-not-is_quiet c =
    sym (c.loop-link.invariant ∙ quiet_no _ _ c.link-item.result c.loop-link-test.true c.link-item.is
    (sym c.is_quiet.ensures ∙ c.if-not-is_quiet.true))
