-- What has ended isn't held, what isn't held nor named is left alone, and orders end at a Close.
use Rattle.dm_history.proofs.Closings.{CloseLaws, ended_is_last, nothing_follows}
use Rattle.dm_history.proofs.laws.ended_connections_stay_silent_until_named.Goals as goal

pub returns : goal.returns
returns c =
    let laws : CloseLaws = record {
      changes = c.connection_changes_and_orders_are_allowed.ensures;
      fresh = c.each_event_keeps_peers_settled.ensures.fresh;
      kept = c.each_event_keeps_peers_settled.ensures.kept;
      closed = c.given_up_is_closed_unnamed_stays_unheld.ensures.closed;
      alone = c.given_up_is_closed_unnamed_stays_unheld.ensures.alone;
      last = c.given_up_is_closed_unnamed_stays_unheld.ensures.last;
      orders = c.connection_orders_are_its_commands.ensures.order;
    } in
    record { last = ended_is_last laws; behind = nothing_follows laws }
