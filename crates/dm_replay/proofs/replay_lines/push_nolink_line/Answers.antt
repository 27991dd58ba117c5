use Rattle.std.proofs.Common.{append_assoc}
use Rattle.dm_replay.specs.ReplayLines.{nolink_line}
use Rattle.dm_replay.proofs.replay_lines.push_nolink_line.Goals as goal

pub returns : goal.returns
unfolding nolink_line
returns c = rw (c.in_ok-extend_from_slice.ensures.items, c.in_ok-push_decimal.ensures) (simp append_assoc)
