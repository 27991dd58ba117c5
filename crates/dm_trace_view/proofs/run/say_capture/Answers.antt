use Rattle.dm_trace_view.proofs.Saying.{gathering}
use Rattle.dm_trace_view.proofs.Whole.{capture_none}
use Rattle.dm_trace_view.proofs.run.say_capture.Goals as goal

pub returns-in-Err-clause-stopped : goal.returns-in-Err-clause-stopped
returns-in-Err-clause-stopped g c =
    let e = c.texts_gathered_in_turn_gather_as_one.ensures in
    let laws = gathering e.nothing e.turns e.writes e.fails e.leaves_nothing e.leaves in
    capture_none c.args.dictionary.now c.args.style c.args.looks laws (g.R.Read.remaining c.args.reader.now)
    (g.R.Read.remaining c.args.reader.now) (g.W.Write.contents c.args.writer.now)
