use Rattle.std.proofs.Common.{append_assoc}
use Rattle.dm_replay.specs.ReplayLines.{trace_line}
use Rattle.dm_replay.proofs.replay_lines.push_trace_line.Goals as goal

pub returns : goal.returns
unfolding trace_line
returns c =
    rw (
      c.in_ok-push.ensures.items,
      c.in_ok-push_state_and_connections-2.ensures,
      c.in_ok-extend_from_slice.ensures.items,
      c.in_ok-push_state_and_connections.ensures,
      c.in_ok-push_spaced_effect_and_side_a.ensures,
      c.in_ok-push_decimal.ensures,
      c.peer.ensures,
      c.peer-2.ensures,
    ) (simp append_assoc)
