use Rattle.dm_live.specs.Stages.{stage_of}
use Rattle.dm_live.proofs.Serving.{ServedOf}
use Rattle.dm_live.proofs.serve.answer_all_lines.Given as goal

-- the lines so far are answered
abbrev pub invariant-line : goal.invariant-line
invariant-line g l =
    ServedOf (g.R.Read.remaining l.fn.reader) (g.R.Read.remaining l.reader) l.before (stage_of l.live)
    (g.W.Write.contents l.fn.writer) (g.W.Write.contents l.writer)
