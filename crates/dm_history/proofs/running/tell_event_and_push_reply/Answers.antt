use Rattle.std.proofs.Common.{◌∷◌, [], ◌++◌, ap, ◌∙◌}
use Rattle.dm_peer.specs.Events.{event_told}
use Rattle.dm_history.proofs.Replying.{one_more}
use Rattle.dm_history.proofs.running.tell_event_and_push_reply.Goals as goal

pub returns-clause-told : goal.returns-clause-told
returns-clause-told c =
    λ first events before.
    one_more first events c.args.replies.now.items c.push_reserved.new.self.items c.in_ok-reply.reply c.args.peer.now
    (event_told c.args.event) c.tell_peer_and_get_reply.new.peer
    (c.push_reserved.ensures.items ∙ ap (λ l. l ++ c.in_ok-reply.reply ∷ []) c.in_ok-reserve_room_for_reply.ensures.same) before
    c.in_ok-reply.ensures.replied
