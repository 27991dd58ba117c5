-- The laws as they are proved for events and for turns.
use Rattle.dm_node.proofs.Closing.{closes_its_own}
use Rattle.dm_node.proofs.Newcomers.{PeerLaws, peer_laws}
use Rattle.dm_node.proofs.Others.{event_leaves_others, next_leaves_others}
use Rattle.dm_node.proofs.laws.other_neighbours_are_left_alone.Goals as goal

laws : (c : goal.After-connections_stay_until_closed) → PeerLaws
laws c =
    peer_laws c.done_events_are_steps_or_drops.ensures c.each_event_keeps_peers_settled.ensures.fresh
    c.each_event_keeps_peers_settled.ensures.kept c.given_up_is_closed_unnamed_stays_unheld.ensures.alone
    c.given_up_is_closed_unnamed_stays_unheld.ensures.closed

pub returns-clause-event : goal.returns-clause-event
returns-clause-event c = λ e s t answer j sound after tells un.
    event_leaves_others c.events_take_named_release_closed_connections.ensures.closed
    (closes_its_own (laws c).step (laws c).gives_up) (laws c) c.connections_stay_until_closed.ensures.closed e s t answer j
    sound after.neighbourhood.apart tells un

pub returns-clause-octets : goal.returns-clause-octets
returns-clause-octets c = λ policy d s t turn j sound after tells un.
    next_leaves_others c.events_take_named_release_closed_connections.ensures.closed
    (closes_its_own (laws c).step (laws c).gives_up) (laws c) c.connections_stay_until_closed.ensures.closed policy
    turn.arrived d s t turn.answer j sound after.neighbourhood.apart tells un
