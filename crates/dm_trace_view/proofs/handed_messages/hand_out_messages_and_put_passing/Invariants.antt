use Rattle.std.proofs.Common.{◌≡◌, ◌++◌, ℕ, List}
use Rattle.std.specs.String.{string_bytes}
use Rattle.dm_trace_view.specs.Handed.{HandsNext, SaysOne, SaysSome}
use Rattle.dm_trace_view.specs.Talks.{talk_of}
use Rattle.dm_trace_view.proofs.handed_messages.hand_out_messages_and_put_passing.Given as goal

-- these messages were handed out so far, and this is said of them
abbrev pub invariant-loop : goal.invariant-loop
invariant-loop g l = record {
  messages : List (List ℕ);
  so : List ℕ;
  text : string_bytes l.text ≡ string_bytes l.fn.text ++ so;
  said : SaysSome
      (HandsNext (talk_of g.C.TwoWay.new_of g.C.TwoWay.passed_in g.C.TwoWay.secured_in g.C.TwoWay.held_in g.C.TwoWay.pending_in g.C.TwoWay.one_way g.C.TwoWay.with_way g.C.TwoWay.Hands g.C.TwoWay.HandsNone) l.fn.direction)
      (SaysOne l.fn.saying.task l.dictionary l.fn.saying.filter l.fn.direction) l.fn.before l.fn.connections messages
      l.so_far l.connections so;
}
