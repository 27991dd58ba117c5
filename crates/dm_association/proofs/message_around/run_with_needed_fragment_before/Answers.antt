-- The fragment before is of another stream.
use Rattle.std.proofs.Common.{◌∙◌, sym}
use Rattle.dm_association.proofs.MessageRuns.{left_other}
use Rattle.dm_association.proofs.message_around.run_with_needed_fragment_before.Goals as goal

pub returns-in_default-clause-none : goal.returns-in_default-clause-none
returns-in_default-clause-none c =
    left_other c.args.tsns.now.items c.args.at c.args.own c.args.run c.in-Some.marks c.requires c.if-run.false
    (sym c.fragment_marks_at.ensures ∙ c.in-Some.is) c.if-marks-own.false
