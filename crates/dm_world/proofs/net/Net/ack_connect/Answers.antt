use Rattle.std.proofs.Common.{◌≡◌, [], ◌∷◌, ◌++◌, slice_get, sym, subst, ◌∙◌}
use Rattle.dm_world.specs.Ends.{ends_of}
use Rattle.dm_world.specs.Seen.{as_side, as_link, as_links}
use Rattle.dm_world.specs.Views.{as_world}
use Rattle.dm_world.proofs.Hearing.{link_found}
use Rattle.dm_world.proofs.Happenings.{ack_step, ack_ignored}
use Rattle.dm_world.proofs.Named.{made_one}
use Rattle.dm_world.proofs.net.Net.ack_connect.Goals as goal

pub returns-then-not-is_pending-clause-step : goal.returns-then-not-is_pending-clause-step
returns-then-not-is_pending-clause-step c =
    ack_ignored (as_world c.args.self.now) c.args.conn.0 (as_link c.index-link.result.now)
    (link_found c.args.conn.0 c.in_ok-index.index c.args.self.now.links.items c.index-link.result.now
    c.in_ok-index.ensures.there c.index-link.ensures)
    (sym c.is_pending.ensures ∙ c.if-not-is_pending.true)

pub returns-in-Done-clause-step : goal.returns-in-Done-clause-step
returns-in-Done-clause-step c =
    ack_step c.in_ok-effect.effect (as_world c.args.self.now) (as_world c.tell_side.new.self) c.args.conn.0
    (as_link c.index-link.result.now)
    (link_found c.args.conn.0 c.in_ok-index.index c.args.self.now.links.items c.index-link.result.now
    c.in_ok-index.ensures.there c.index-link.ensures)
    (sym c.is_pending.ensures ∙ c.if-not-is_pending.false) c.in_ok-effect.ensures.step

pub returns-in_default-clause-step : goal.returns-in_default-clause-step
returns-in_default-clause-step c =
    ack_step c.in_ok-effect.effect (as_world c.args.self.now) (as_world c.tell_side.new.self) c.args.conn.0
    (as_link c.index-link.result.now)
    (link_found c.args.conn.0 c.in_ok-index.index c.args.self.now.links.items c.index-link.result.now
    c.in_ok-index.ensures.there c.index-link.ensures)
    (sym c.is_pending.ensures ∙ c.if-not-is_pending.false) c.in_ok-effect.ensures.step

pub returns-in-Done-clause-made : goal.returns-in-Done-clause-made
returns-in-Done-clause-made c =
    made_one c.in_ok-effect.effect (slice_get (as_links c.args.self.now.links.items) c.args.conn.0)
    (as_link c.index-link.result.now) c.args.conn.0 c.args.made.now c.reserve_end.new.self c.add_end.new.self
    (as_side c.other-in-Done.result) c.in-Done.is
    (link_found c.args.conn.0 c.in_ok-index.index c.args.self.now.links.items c.index-link.result.now
    c.in_ok-index.ensures.there c.index-link.ensures)
    c.reserve_end.ensures.same c.other-in-Done.ensures
    (subst (λ k. ends_of (as_side c.other-in-Done.result) c.add_end.new.self
    ≡ ends_of (as_side c.other-in-Done.result) c.reserve_end.new.self ++ k ∷ []) c.in_ok-index.ensures.there.0
    c.add_end.ensures.added)
    c.add_end.ensures.other
