use Rattle.std.proofs.Common.{◌∙◌}
use Rattle.dm_world.proofs.Performs.{took, room_one, room_rest, room_now, performed_turn, performed_end, frames_now}
use Rattle.dm_world.proofs.Performs.{frames_one, frames_rest}
use Rattle.dm_octet_peers.specs.Octets.{as_action, as_actions}
use Rattle.dm_world.proofs.events_on_links.perform_sends_and_closes.Goals as goal

pub perform_send_or_close-requires-clause-frames : goal.perform_send_or_close-requires-clause-frames
perform_send_or_close-requires-clause-frames c =
    let is = took c.loop-action.actions.items c.pop_at.new.self.items c.in-Some.action c.in-Some.ensures.value
    c.in-Some.ensures.items in
    frames_one _ _ (frames_now _ _ _ is c.loop-action.invariant.frames)

pub perform_send_or_close-requires-clause-room : goal.perform_send_or_close-requires-clause-room
perform_send_or_close-requires-clause-room c =
    let is = took c.loop-action.actions.items c.pop_at.new.self.items c.in-Some.action c.in-Some.ensures.value
    c.in-Some.ensures.items in
    room_one _ _ _ _ (room_now _ _ _ _ _ is c.loop-action.invariant.room)

pub loop-action-preserved : goal.loop-action-preserved
loop-action-preserved c =
    let is = took c.loop-action.actions.items c.pop_at.new.self.items c.in-Some.action c.in-Some.ensures.value
    c.in-Some.ensures.items in
    record {
      performed = performed_turn _ _ _ _ _ _ is c.perform_send_or_close.ensures.performed ∙ c.loop-action.invariant.performed;
      room = room_rest _ _ _ _ _ (room_now _ _ _ _ _ is c.loop-action.invariant.room) c.perform_send_or_close.ensures.room;
      frames = frames_rest (as_action c.in-Some.action) (as_actions c.pop_at.new.self.items)
          (frames_now _ _ _ is c.loop-action.invariant.frames);
    }

pub returns : goal.returns
returns c = performed_end _ _ _ c.in_default.ensures.value ∙ c.loop-action.invariant.performed
