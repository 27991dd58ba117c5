use Rattle.std.proofs.Common.{[]}
use Rattle.dm_trace_view.proofs.Saying.{gathering, handed_on, held-unwritten, stops-settled, unwaiting, unwaiting-stops}
use Rattle.dm_trace_view.proofs.buffered_packets.say_and_write_held_packets.Goals as goal

pub returns-in_err-write_waiting_text-in-Ok-clause-stopped :
    goal.returns-in_err-write_waiting_text-in-Ok-clause-stopped
returns-in_err-write_waiting_text-in-Ok-clause-stopped g c =
    let e = c.texts_gathered_in_turn_gather_as_one.ensures in
    let laws = gathering e.nothing e.turns e.writes e.fails e.leaves_nothing e.leaves in
    handed_on _ _ c.in_err-write_waiting_text-in-Ok.field-0.0 c.from_residual.ensures.1
    (held-unwritten _ _ laws _ _ _ _ _ _ _ _ _ [] _ (unwaiting _ _ _ _ _ _ _ _ _ _ _ c.requires.none c.in-Ok.ensures.told)
    c.in_err-write_waiting_text-in-Ok.ensures.stopped)

pub returns-in-Err-clause-stopped : goal.returns-in-Err-clause-stopped
returns-in-Err-clause-stopped g c =
    let e = c.texts_gathered_in_turn_gather_as_one.ensures in
    let laws = gathering e.nothing e.turns e.writes e.fails e.leaves_nothing e.leaves in
    stops-settled _ _ laws _ _ _ _ _ _ _ [] _ (unwaiting-stops _ _ _ _ _ _ _ _ _ c.requires.none c.in-Err.ensures.stopped)
    c.write_waiting_unless_write_failed.ensures
