-- What the event leaves, and why it is refused.
use Rattle.dm_node.proofs.Closing.{closes_its_own}
use Rattle.dm_node.proofs.Newcomers.{peer_laws}
use Rattle.dm_node.proofs.NodeTold.{held_moved, closed_moved, refused, memory}
use Rattle.dm_node.proofs.telling.tell_neighbour_or_handle_stranger.Goals as goal

pub returns-in-Ok-clause-closed : goal.returns-in-Ok-clause-closed
returns-in-Ok-clause-closed g c =
    let policy = g.S.Strangers.policy c.args.strangers.now in
    let laws = peer_laws c.done_events_are_steps_or_drops.ensures c.each_event_keeps_peers_settled.ensures.fresh
    c.each_event_keeps_peers_settled.ensures.kept c.given_up_is_closed_unnamed_stays_unheld.ensures.alone
    c.given_up_is_closed_unnamed_stays_unheld.ensures.closed in
    closed_moved c.events_take_named_release_closed_connections.ensures.closed
    (closes_its_own c.done_events_are_steps_or_drops.ensures c.given_up_is_closed_unnamed_stays_unheld.ensures.closed) laws policy
    c.args.event c.args.own.now c.args.neighbours.now c.tell_one_or_handle_stranger.new.neighbours
    c.tell_one_or_handle_stranger.new.answer.neighbour c.tell_one_or_handle_stranger.new.answer.actions.items c.neighbours_are_apart_and_sound.ensures.kept
    c.neighbours_are_apart_and_sound.ensures.apart.apart c.in-Ok.ensures.told

pub returns-in-Ok-clause-held : goal.returns-in-Ok-clause-held
returns-in-Ok-clause-held g c =
    let policy = g.S.Strangers.policy c.args.strangers.now in
    let laws = peer_laws c.done_events_are_steps_or_drops.ensures c.each_event_keeps_peers_settled.ensures.fresh
    c.each_event_keeps_peers_settled.ensures.kept c.given_up_is_closed_unnamed_stays_unheld.ensures.alone
    c.given_up_is_closed_unnamed_stays_unheld.ensures.closed in
    held_moved c.events_take_named_release_closed_connections.ensures.others laws policy c.args.event c.args.own.now
    c.args.neighbours.now c.tell_one_or_handle_stranger.new.neighbours c.tell_one_or_handle_stranger.new.answer.neighbour
    c.tell_one_or_handle_stranger.new.answer.actions.items c.neighbours_are_apart_and_sound.ensures.kept c.in-Ok.ensures.told

pub returns-in-Err-clause-refused : goal.returns-in-Err-clause-refused
returns-in-Err-clause-refused g c =
    refused (g.S.Strangers.policy c.args.strangers.now) c.args.neighbours.now c.args.event c.in-Err.fault
    c.in-Err.ensures.refused

pub returns-in-Err-clause-memory : goal.returns-in-Err-clause-memory
returns-in-Err-clause-memory g c = λ d octets is.
    memory c.event_refusals_go_by_rule.ensures (g.S.Strangers.policy c.args.strangers.now) c.args.neighbours.now d
    octets c.args.event c.in-Err.fault c.neighbours_are_apart_and_sound.ensures.kept is c.in-Err.ensures.refused
