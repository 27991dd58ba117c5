use Rattle.std.proofs.Common.{append_assoc}
use Rattle.dm_tool.specs.Text.{message_text}
use Rattle.dm_tool.proofs.message_text.push_message_text.Goals as goal

pub returns : goal.returns
unfolding message_text
returns c l spells =
    rw (
      c.in_ok-push_avp_lines.ensures l (c.spelled_avps_are_members.ensures _ l spells),
      c.in_ok-push.ensures.items,
      c.in_ok-push_header.ensures,
    ) (simp append_assoc)
