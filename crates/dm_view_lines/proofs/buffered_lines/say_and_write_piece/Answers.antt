use Rattle.dm_view_lines.proofs.Settling.{piece_settled, piece_broken, put_known}
use Rattle.dm_view_lines.proofs.buffered_lines.say_and_write_piece.Goals as goal

pub returns-clause-told : goal.returns-clause-told
returns-clause-told g c =
    piece_settled _ _ _ _ _ _ _ _ c.say_and_gather_piece-put.result _ _ _ _ _ _ _ c.requires.none c.say_and_gather_piece-put.ensures.told
    c.write_waiting_unless_write_failed.ensures.settled

pub returns-clause-one_line : goal.returns-clause-one_line
returns-clause-one_line g c =
    put_known _ c.say_and_gather_piece-put.result _ _ _ _ c.say_and_gather_piece-put.ensures.one_line c.write_waiting_unless_write_failed.ensures.settled

pub returns-clause-goes : goal.returns-clause-goes
returns-clause-goes g c =
    put_known _ c.say_and_gather_piece-put.result _ _ _ _ c.say_and_gather_piece-put.ensures.goes c.write_waiting_unless_write_failed.ensures.settled

pub returns-clause-stopped : goal.returns-clause-stopped
returns-clause-stopped g c =
    piece_broken _ _ _ _ _ _ _ _ c.say_and_gather_piece-put.result _ _ _ _ _ _ _ c.requires.none c.say_and_gather_piece-put.ensures.told
    c.say_and_gather_piece-put.ensures.stopped c.write_waiting_unless_write_failed.ensures.settled
