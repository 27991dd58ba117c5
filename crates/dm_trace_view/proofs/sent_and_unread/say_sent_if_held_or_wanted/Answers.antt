use Rattle.std.proofs.Common.{◌≡◌, refl, subst}
use Rattle.std.specs.String.{string_bytes}
use Rattle.dm_trace_view.specs.declared.sent_and_unread.Unread.{Unread}
use Rattle.dm_trace_view.specs.Traces.{counted_sent}
use Rattle.dm_trace_view.proofs.SentOn.{heard, not_heard}
use Rattle.dm_trace_view.proofs.sent_and_unread.say_sent_if_held_or_wanted.Goals as goal

pub returns-in_default : goal.returns-in_default
returns-in_default g c =
    let none = rw c.in_default.is at c.in_ok-ends.ensures.none in
    not_heard _ _ _ _ _ _ _ _ _ _ none.0 none.1

pub returns : goal.returns
returns g c =
    let Counted : Unread → Type 0 =
    λ n. c.counts_with_connection_and_unread-counts.result ≡ counted_sent c.find_held_ends-held.result n c.args.before.counts in
    heard _ _ _ _ _ _ _ _ _ _ _ _ (record {
      by = c.sender_and_receiver_of-between.result;
      by_is = c.sender_and_receiver_of-between.ensures;
      held = c.find_held_ends-held.result;
      held_is = c.find_held_ends-held.ensures;
      ago = c.unread_octets_of_held-ago.result;
      ago_is = c.unread_octets_of_held-ago.ensures;
      ends = c.in-Some.ends;
      heard = c.take_if_held_or_wanted.new.self;
      goes = rw c.in-Some.is at c.in_ok-ends.ensures.taken;
      max = c.take_if_held_or_wanted.ensures.max;
      direction = c.direction_between-direction.result;
      direction_is = c.direction_between-direction.ensures;
      handed = c.hand_out_messages_and_put_passing.new.connections;
      told = string_bytes c.hand_out_messages_and_put_passing.new.text;
      says = rw c.task_and_filter-saying.ensures at c.in_ok-numbered.ensures;
      now = c.unread_octets_of_held-now.result;
      now_is = c.unread_octets_of_held-now.ensures;
      passed = string_bytes c.put_unread_octets.new.text;
      passed_is = c.in_ok-put_unread_octets.ensures;
      counted = c.counts_with_connection_and_unread-counts.result;
      counted_is = subst Counted c.unread_since.ensures c.counts_with_connection_and_unread-counts.ensures;
      lets = c.in_ok-lost.ensures;
      counts = refl;
    })
