-- By the state machine's laws of one connection.
use Rattle.dm_peer.proofs.HeldAfter.{others_stay_unheld, closed_is_unheld, gone_is_unheld}
use Rattle.dm_peer.proofs.laws.events_take_named_release_closed_connections.Goals as goal

pub returns-clause-others : goal.returns-clause-others
returns-clause-others c = others_stay_unheld c.done_events_are_steps_or_drops.ensures c.given_up_is_closed_unnamed_stays_unheld.ensures.alone

pub returns-clause-closed : goal.returns-clause-closed
returns-clause-closed c = closed_is_unheld c.done_events_are_steps_or_drops.ensures c.given_up_is_closed_unnamed_stays_unheld.ensures.closed

pub returns-clause-gone : goal.returns-clause-gone
returns-clause-gone c = gone_is_unheld c.done_events_are_steps_or_drops.ensures c.connection_changes_and_orders_are_allowed.ensures
