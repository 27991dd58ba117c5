use Rattle.dm_two_nodes.proofs.Delivering.{two_nodes_deliver}
use Rattle.dm_two_nodes.proofs.laws.two_nodes_deliver_in_order.Goals as goal

pub returns : goal.returns
returns c =
    two_nodes_deliver c.peers_go_by_no_connection_number.ensures c.done_events_are_steps_or_drops.ensures
    (record {
      forms = c.shaped_cores_have_eight_forms.ensures.formed;
      cases = c.events_are_steps_drops_or_refusals.ensures;
      fresh = c.each_event_keeps_peers_settled.ensures.fresh;
      kept = c.each_event_keeps_peers_settled.ensures.kept;
    }) c.each_octet_run_delivers_in_order.ensures
