use Rattle.std.proofs.Common.{ap, ◌∙◌}
use Rattle.dm_peer.specs.declared.peer.Peer.{Peer}
use Rattle.dm_world.specs.Ends.{restart_each, held_numbers}
use Rattle.dm_world.specs.Seen.{as_side, as_links}
use Rattle.dm_world.proofs.Restarts.{held_restarted, world_anew}
use Rattle.dm_world.proofs.net.Net.restart_side.Goals as goal

pub returns-clause-anew : goal.returns-clause-anew
returns-clause-anew c =
    let s = as_side c.args.side in
    let first = as_links c.close_each_link_at_restart.new.links.items in
    world_anew s c.args.self.now (record { pair = c.reset.new.self; links = c.close_link_if_any_at_restart-2.new.links })
    c.args.made.now first c.requires.sound c.requires.named c.reset.ensures
    (c.close_each_link_at_restart.ensures ∙ ap (λ cs. restart_each s cs (as_links c.args.self.now.links.items))
    c.ends_made_for.ensures)
    (held_restarted s c.peer_at-peer.result.now.standing.core c.initiated.result c.accepted.result first
    (as_links c.close_link_if_any_at_restart.new.links.items) (as_links c.close_link_if_any_at_restart-2.new.links.items) c.initiated.ensures
    c.accepted.ensures c.close_link_if_any_at_restart.ensures c.close_link_if_any_at_restart-2.ensures
    ∙ ap (λ (p : Peer). restart_each s (held_numbers p.standing.core) first) c.peer_at-peer.ensures)
