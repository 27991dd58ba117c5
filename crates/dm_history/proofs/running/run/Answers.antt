use Rattle.dm_history.proofs.Replays.{replied_lived}
use Rattle.dm_history.proofs.Promises.{leads_on, leaves_opened, carries_through, leaves_ended, closes_through}
use Rattle.dm_history.proofs.running.run.Goals as goal

pub returns-clause-history : goal.returns-clause-history
returns-clause-history c =
    leads_on c.args.peer.now c.tell_events_while_memory_lasts.new.peer _ (replied_lived _ _ _ _ c.tell_events_while_memory_lasts.ensures.replied)

pub returns-clause-in_order : goal.returns-clause-in_order
returns-clause-in_order c =
    c.runs_hand_up_all_in_order.ensures c.args.peer.now _ c.tell_events_while_memory_lasts.new.peer c.peers_are_settled_with_encodable_numbers.ensures.settled
    (replied_lived _ _ _ _ c.tell_events_while_memory_lasts.ensures.replied)

pub returns-clause-sent : goal.returns-clause-sent
returns-clause-sent c =
    c.each_done_submit_is_sent_once.ensures.throughout c.args.peer.now _ c.tell_events_while_memory_lasts.new.peer
    c.peers_are_settled_with_encodable_numbers.ensures.settled
    (replied_lived _ _ _ _ c.tell_events_while_memory_lasts.ensures.replied)

pub returns-clause-opened : goal.returns-clause-opened
returns-clause-opened c =
    leaves_opened c.each_opening_follows_cer_and_cea.ensures c.args.peer.now c.tell_events_while_memory_lasts.new.peer _
    (replied_lived _ _ _ _ c.tell_events_while_memory_lasts.ensures.replied)

pub returns-clause-carried : goal.returns-clause-carried
returns-clause-carried c =
    carries_through c.user_messages_have_submits_or_arrivals.ensures c.args.peer.now c.tell_events_while_memory_lasts.new.peer _
    (replied_lived _ _ _ _ c.tell_events_while_memory_lasts.ensures.replied)

pub returns-clause-closed : goal.returns-clause-closed
returns-clause-closed c =
    closes_through c.ended_connections_stay_silent_until_named.ensures.behind c.args.peer.now c.tell_events_while_memory_lasts.new.peer _
    (replied_lived _ _ _ _ c.tell_events_while_memory_lasts.ensures.replied)

pub returns-clause-ended : goal.returns-clause-ended
returns-clause-ended c =
    leaves_ended c.ended_connections_stay_silent_until_named.ensures.last c.args.peer.now c.tell_events_while_memory_lasts.new.peer _
    (replied_lived _ _ _ _ c.tell_events_while_memory_lasts.ensures.replied)

pub returns-clause-stays : goal.returns-clause-stays
returns-clause-stays c =
    λ d opened none.
    c.only_listed_events_end_open_connections.ensures.lasts c.args.peer.now _ c.tell_events_while_memory_lasts.new.peer d c.peers_are_settled_with_encodable_numbers.ensures.settled
    (replied_lived _ _ _ _ c.tell_events_while_memory_lasts.ensures.replied) opened none

pub returns-clause-counted : goal.returns-clause-counted
returns-clause-counted c =
    λ d opened.
    c.watchdogs_count_ticks_since_something_came.ensures c.args.peer.now _ c.tell_events_while_memory_lasts.new.peer d c.peers_are_settled_with_encodable_numbers.ensures.settled
    (replied_lived _ _ _ _ c.tell_events_while_memory_lasts.ensures.replied) opened
