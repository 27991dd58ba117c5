use Rattle.std.proofs.Common.{append_assoc}
use Rattle.dm_view.specs.View.{message_view}
use Rattle.dm_view.proofs.message.put_message.Goals as goal

pub returns : goal.returns
unfolding message_view
returns c l spells =
    rw (c.in_ok-put_avps.ensures l (c.spelled_avps_are_members.ensures _ l spells), c.in_ok-put_header_line.ensures) (simp append_assoc)
