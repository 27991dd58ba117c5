-- By what each connection has been through, and by where an action comes from.
use Rattle.dm_history.proofs.UserMessages.{carries}
use Rattle.dm_history.proofs.laws.user_messages_have_submits_or_arrivals.Goals as goal

pub returns : goal.returns
returns c =
    carries (record {
      steps = record {
        form = c.shaped_cores_have_eight_forms.ensures.formed;
        caused = c.acked_taken_and_open_connections_have_causes.ensures;
        asked = c.ceas_open_and_cers_go_at_acks.ensures.asked;
        closes = c.messages_do_the_same_where_unread.ensures.rejected;
        closed = c.given_up_is_closed_unnamed_stays_unheld.ensures.closed;
        commands = c.connection_orders_are_its_commands.ensures.command;
        orders = c.connection_orders_are_its_commands.ensures.order;
        fresh = c.each_event_keeps_peers_settled.ensures.fresh;
        kept = c.each_event_keeps_peers_settled.ensures.kept;
      };
      accepted = c.ceas_open_and_cers_go_at_acks.ensures.accepted;
      answers = c.dwas_dpas_and_refusing_answers_have_requests.ensures;
      submits = c.one_open_connection_carries_user_messages.ensures.submits;
      up = c.one_open_connection_carries_user_messages.ensures.up;
      each = c.one_open_connection_carries_user_messages.ensures.each;
      one = c.one_open_connection_carries_user_messages.ensures.one;
      apart = c.connection_orders_are_its_commands.ensures.apart;
    })
