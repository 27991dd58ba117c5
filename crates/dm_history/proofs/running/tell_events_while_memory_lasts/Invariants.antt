-- The events so far have their replies.
use Rattle.std.proofs.Common.{◌≡◌, length, take, reverse, map}
use Rattle.dm_peer.specs.Events.{event_told}
use Rattle.dm_history.specs.Telling.{Replied}
use Rattle.dm_history.proofs.running.tell_events_while_memory_lasts.Given as goal

abbrev pub invariant-loop-event : goal.invariant-loop-event
invariant-loop-event l = record {
  counted : length l.replies.items ≡ l.event-index;
  replied : Replied l.fn.peer (reverse (take l.event-index (map event_told l.events))) (reverse l.replies.items) l.peer;
}
