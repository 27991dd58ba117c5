use Rattle.std.proofs.Common.{◌≡◌, length}
use Rattle.dm_two_peers.specs.Worlds.{perform}
use Rattle.dm_octet_peers.specs.Frames.{SendFrames}
use Rattle.dm_octet_peers.specs.Octets.{as_actions}
use Rattle.dm_world.specs.Rooms.{HasRoomFor}
use Rattle.dm_world.specs.Seen.{as_side, as_links}
use Rattle.dm_world.proofs.events_on_links.perform_sends_and_closes.Given as goal

abbrev pub invariant-loop-action : goal.invariant-loop-action
invariant-loop-action l = record {
  performed : perform (as_side l.side) (as_actions l.actions.items) (as_links l.links.items) ≡
      perform (as_side l.side) (as_actions l.fn.actions.items) (as_links l.fn.links.items);
  room : HasRoomFor (as_side l.side) l.links.items (as_actions l.actions.items);
  frames : SendFrames (as_actions l.actions.items);
}

abbrev pub decreases-loop-action : goal.decreases-loop-action
decreases-loop-action l = length l.actions.items
