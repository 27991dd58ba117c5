use Rattle.dm_history.proofs.Upwards.{in_order}
use Rattle.dm_history.proofs.laws.runs_hand_up_all_in_order.Goals as goal

pub returns : goal.returns
returns c = in_order c.each_event_keeps_peers_settled.ensures.kept c.one_open_connection_carries_user_messages.ensures.up
    c.one_open_connection_carries_user_messages.ensures.each
