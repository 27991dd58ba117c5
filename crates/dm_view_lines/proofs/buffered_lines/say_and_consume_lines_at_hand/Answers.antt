use Rattle.std.proofs.Common.{refl}
use Rattle.dm_view_lines.proofs.Readings.{took_none}
use Rattle.dm_view_lines.proofs.buffered_lines.say_and_consume_lines_at_hand.Goals as goal

pub returns-in-Err-clause-told : goal.returns-in-Err-clause-told
returns-in-Err-clause-told g c =
    took_none _ _ _ _ _ _ _ _ _ c.fill_buf.follows.holds-at-none.0 c.came_of_failed_read.ensures.goes

pub returns-then-size-eq0-clause-told : goal.returns-then-size-eq0-clause-told
returns-then-size-eq0-clause-told g c =
    took_none _ _ _ _ _ _ _ _ _ c.fill_buf.follows.holds-at-none.0 refl
