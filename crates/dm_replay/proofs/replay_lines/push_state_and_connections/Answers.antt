use Rattle.std.proofs.Common.{append_assoc}
use Rattle.dm_replay.specs.ReplayLines.{node_text}
use Rattle.dm_replay.proofs.replay_lines.push_state_and_connections.Goals as goal

pub returns : goal.returns
unfolding node_text
returns c =
    rw (
      c.in_ok-push_connection_if_held-2.ensures,
      c.in_ok-push_connection_if_held.ensures,
      c.in_ok-extend_from_slice.ensures.items,
      c.state_name.ensures,
      c.state.ensures.value,
      c.initiated.ensures,
      c.accepted.ensures,
    ) (simp append_assoc)
