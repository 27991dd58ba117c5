use Rattle.std.proofs.Common.{sym, ◌∙◌}
use Rattle.dm_world.specs.Seen.{as_link}
use Rattle.dm_world.specs.Views.{as_world}
use Rattle.dm_world.proofs.Hearing.{link_found}
use Rattle.dm_world.proofs.Happenings.{nack_step, nack_ignored}
use Rattle.dm_world.proofs.net.Net.nack_connect.Goals as goal

pub returns-then-not-is_pending-clause-step : goal.returns-then-not-is_pending-clause-step
returns-then-not-is_pending-clause-step c =
    nack_ignored (as_world c.args.self.now) c.args.conn.0 (as_link c.index-link.result.now)
    (link_found c.args.conn.0 c.in_ok-index.index c.args.self.now.links.items c.index-link.result.now
    c.in_ok-index.ensures.there c.index-link.ensures)
    (sym c.is_pending.ensures ∙ c.if-not-is_pending.true)

pub returns-clause-step : goal.returns-clause-step
returns-clause-step c =
    nack_step c.in_ok-tell_side.field-0 (as_world c.args.self.now) (as_world c.tell_side.new.self) c.args.conn.0
    (as_link c.index-link.result.now)
    (link_found c.args.conn.0 c.in_ok-index.index c.args.self.now.links.items c.index-link.result.now
    c.in_ok-index.ensures.there c.index-link.ensures)
    (sym c.is_pending.ensures ∙ c.if-not-is_pending.false) c.in_ok-tell_side.ensures.step
