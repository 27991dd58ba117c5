use Rattle.std.proofs.Common.{sym, subst, ◌∙◌}
use Rattle.dm_two_peers.specs.Happens.{happens, Delivers}
use Rattle.dm_octet_peers.specs.Octets.{octet_peers}
use Rattle.dm_world.specs.Seen.{as_side, as_link}
use Rattle.dm_world.specs.Views.{as_world, Effects}
use Rattle.dm_world.proofs.Hearing.{link_at}
use Rattle.dm_world.proofs.Deliveries.{message_step, disconnect_step}
use Rattle.dm_world.proofs.net.Net.deliver_next.Goals as goal

pub returns-in_ok-deliver_message_to-in-Message-clause-step :
    goal.returns-in_ok-deliver_message_to-in-Message-clause-step
returns-in_ok-deliver_message_to-in-Message-clause-step c =
    let s = as_side c.args.side in
    let w = as_world c.args.self.now in
    let next = as_world c.deliver_message_to.new.self in
    let outcome = c.in_ok-deliver_message_to-in-Message.field-0 in
    let there = c.in_ok-index.ensures.there in
    subst (λ k. Effects outcome (happens octet_peers w (Delivers k s)) w next) there.0
    (message_step s c.in_ok-index.index outcome w next (as_link c.index.result.now)
    (link_at c.in_ok-index.index c.args.self.now.links.items c.index.result.now there.1 c.index.ensures)
    (sym c.coming_next_to.ensures ∙ c.in-Message.is) c.in_ok-deliver_message_to-in-Message.ensures.step)

pub returns-in_ok-deliver_disconnect_to-in-Disconnect-clause-step :
    goal.returns-in_ok-deliver_disconnect_to-in-Disconnect-clause-step
returns-in_ok-deliver_disconnect_to-in-Disconnect-clause-step c =
    let s = as_side c.args.side in
    let w = as_world c.args.self.now in
    let next = as_world c.deliver_disconnect_to.new.self in
    let outcome = c.in_ok-deliver_disconnect_to-in-Disconnect.field-0 in
    let there = c.in_ok-index.ensures.there in
    subst (λ k. Effects outcome (happens octet_peers w (Delivers k s)) w next) there.0
    (disconnect_step s c.in_ok-index.index outcome w next (as_link c.index.result.now)
    (link_at c.in_ok-index.index c.args.self.now.links.items c.index.result.now there.1 c.index.ensures)
    (sym c.coming_next_to.ensures ∙ c.in-Disconnect.is) c.in_ok-deliver_disconnect_to-in-Disconnect.ensures.step)
