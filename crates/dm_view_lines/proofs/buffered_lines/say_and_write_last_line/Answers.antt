use Rattle.dm_view_lines.proofs.Settling.{lines_settled, lines_broken, put_known}
use Rattle.dm_view_lines.proofs.buffered_lines.say_and_write_last_line.Goals as goal

pub returns-clause-told : goal.returns-clause-told
returns-clause-told g c =
    lines_settled _ _ _ _ _ _ _ c.say_and_gather_last_line-put.result _ _ _ _ _ _ c.requires.none
    c.say_and_gather_last_line-put.ensures.told
    c.write_waiting_unless_write_failed.ensures.settled

pub returns-clause-goes : goal.returns-clause-goes
returns-clause-goes g c =
    put_known _ c.say_and_gather_last_line-put.result _ _ _ _ c.say_and_gather_last_line-put.ensures.goes
    c.write_waiting_unless_write_failed.ensures.settled

pub returns-clause-stopped : goal.returns-clause-stopped
returns-clause-stopped g c =
    lines_broken _ _ _ _ _ _ _ c.say_and_gather_last_line-put.result _ _ _ _ _ _ c.requires.none c.say_and_gather_last_line-put.ensures.told
    c.say_and_gather_last_line-put.ensures.stopped c.write_waiting_unless_write_failed.ensures.settled
