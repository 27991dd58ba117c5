use Rattle.std.proofs.Common.{◌+◌, length, ap, ◌∙◌}
use Rattle.dm_history.proofs.Replying.{none_replied, more_replied}
use Rattle.dm_history.proofs.running.tell_events_while_memory_lasts.Goals as goal

pub loop-event-init : goal.loop-event-init
loop-event-init c =
    record {
      counted = ap length c.new-replies.ensures.items;
      replied = none_replied c.args.peer.now c.new-replies.result.items c.new-replies.ensures.items;
    }

pub loop-event-preserved : goal.loop-event-preserved
loop-event-preserved c =
    record {
      counted = c.in-Ok.ensures.counted ∙ ap (λ n. n + 1) c.loop-event.invariant.counted;
      replied = more_replied c.args.peer.now c.args.events.now c.loop-event.event-index _ c.loop-event.replies.items
          c.tell_event_and_push_reply.new.replies.items c.loop-event.peer c.tell_event_and_push_reply.new.peer c.loop-event-test.true
          c.in-Ok.ensures.told
          c.loop-event.invariant.replied;
    }
