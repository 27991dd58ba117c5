-- By what each connection has been through, by what it is to the peer.
use Rattle.dm_history.proofs.Telling.{opened}
use Rattle.dm_history.proofs.laws.each_opening_follows_cer_and_cea.Goals as goal

pub returns : goal.returns
returns c =
    opened (record {
      form = c.shaped_cores_have_eight_forms.ensures.formed;
      caused = c.acked_taken_and_open_connections_have_causes.ensures;
      asked = c.ceas_open_and_cers_go_at_acks.ensures.asked;
      closes = c.messages_do_the_same_where_unread.ensures.rejected;
      closed = c.given_up_is_closed_unnamed_stays_unheld.ensures.closed;
      commands = c.connection_orders_are_its_commands.ensures.command;
      orders = c.connection_orders_are_its_commands.ensures.order;
      fresh = c.each_event_keeps_peers_settled.ensures.fresh;
      kept = c.each_event_keeps_peers_settled.ensures.kept;
    })
