use Rattle.std.proofs.Common.{◌∷◌, [], ◌++◌, ap, append_assoc, ◌∙◌}
use Rattle.dm_trace_view.specs.Handed.{HandsNext, SaysOne}
use Rattle.dm_trace_view.specs.Talks.{talk_of}
use Rattle.dm_trace_view.proofs.Handing.{some_next}
use Rattle.dm_trace_view.proofs.handed_messages.hand_out_messages_and_put_passing.Goals as goal

pub loop-preserved : goal.loop-preserved
loop-preserved g c =
    let talk = talk_of g.C.TwoWay.new_of g.C.TwoWay.passed_in g.C.TwoWay.secured_in g.C.TwoWay.held_in g.C.TwoWay.pending_in g.C.TwoWay.one_way g.C.TwoWay.with_way g.C.TwoWay.Hands g.C.TwoWay.HandsNone in
    let inv = c.loop.invariant in
    let message = c.in-Some.message.items in
    let said = c.in_ok-so_far.ensures in
    let out : HandsNext talk c.args.direction c.loop.connections message c.next_message_of.new.self = record {
      goes = rw c.in-Some.is at c.in_ok-handed.ensures.message;
      max = c.next_message_of.ensures.max;
    } in
    let all = some_next (HandsNext talk c.args.direction)
    (SaysOne c.args.saying.task c.args.dictionary.now c.args.saying.filter c.args.direction) c.args.before c.loop.so_far
    c.in_ok-so_far.so_far c.args.connections.now c.loop.connections c.next_message_of.new.self inv.messages message inv.so said.0
    inv.said out (rw c.as_slice.ensures.value at said.2) in
    record {
      messages = inv.messages ++ message ∷ [];
      so = inv.so ++ said.0;
      text = said.1 ∙ ap (λ v. v ++ said.0) inv.text ∙ append_assoc _ inv.so said.0;
      said = all;
    }
