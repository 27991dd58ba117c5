use Rattle.std.proofs.Common.{length, sym, ap, ◌∙◌}
use Rattle.dm_two_peers.specs.Happens.{lost_link}
use Rattle.dm_two_peers.specs.Worlds.{change_at}
use Rattle.dm_world.specs.Seen.{as_link, as_links}
use Rattle.dm_world.specs.Views.{as_world}
use Rattle.dm_world.proofs.Changed.{changed}
use Rattle.dm_world.proofs.Hearing.{link_found}
use Rattle.dm_world.proofs.Happenings.{lose_step}
use Rattle.dm_world.proofs.net.Net.lose_link_beyond_octets.Goals as goal

pub returns-clause-step : goal.returns-clause-step
returns-clause-step c =
    let there = c.in_ok-index.ensures.there in
    lose_step (as_world c.args.self.now) _ c.args.conn.0 c.args.to_a c.args.to_b (as_link c.index.result.now)
    (link_found c.args.conn.0 c.in_ok-index.index c.args.self.now.links.items c.index.result.now there c.index.ensures)
    (sym c.ignores_loss.ensures ∙ c.if-ignores_loss.false)
    (ap (λ ls. record { a = c.args.self.now.pair.a; b = c.args.self.now.pair.b; links = ls })
    (changed (lost_link length c.args.to_a c.args.to_b) c.in_ok-index.index c.args.self.now.links.items _
    c.lose_messages_beyond_octets.new.self c.index_mut.ensures.value there.1 c.lose_messages_beyond_octets.ensures
    ∙ ap (λ k. change_at k (lost_link length c.args.to_a c.args.to_b) (as_links c.args.self.now.links.items)) there.0))
