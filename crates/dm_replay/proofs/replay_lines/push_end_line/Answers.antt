use Rattle.std.proofs.Common.{append_assoc}
use Rattle.dm_replay.specs.ReplayLines.{end_line}
use Rattle.dm_replay.proofs.replay_lines.push_end_line.Goals as goal

pub returns : goal.returns
unfolding end_line
returns c =
    rw (
      c.in_ok-push.ensures.items,
      c.in_ok-push_link_or_dash.ensures,
      c.in_ok-extend_from_slice-3.ensures.items,
      c.in_ok-push_yes_or_no-2.ensures,
      c.in_ok-extend_from_slice-2.ensures.items,
      c.in_ok-push_yes_or_no.ensures,
      c.in_ok-extend_from_slice.ensures.items,
      c.agreed.ensures.value,
      c.quiet.ensures,
      c.open_link.ensures.value,
    ) (simp append_assoc)
