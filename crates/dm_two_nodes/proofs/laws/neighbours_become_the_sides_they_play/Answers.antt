use Rattle.dm_two_nodes.proofs.Meeting.{each_neighbour_is_its_side}
use Rattle.dm_two_nodes.proofs.laws.neighbours_become_the_sides_they_play.Goals as goal

pub returns : goal.returns
returns c =
    each_neighbour_is_its_side c.peers_go_by_no_connection_number.ensures c.done_events_are_steps_or_drops.ensures
    (record {
      forms = c.shaped_cores_have_eight_forms.ensures.formed;
      cases = c.events_are_steps_drops_or_refusals.ensures;
      fresh = c.each_event_keeps_peers_settled.ensures.fresh;
      kept = c.each_event_keeps_peers_settled.ensures.kept;
    })
