-- The fragment behind is of another stream, or begins a message.
use Rattle.std.proofs.Common.{◌∙◌, sym}
use Rattle.dm_association.proofs.MessageRuns.{right_other, right_begins, is_so}
use Rattle.dm_association.proofs.message_around.run_with_needed_fragment_behind.Goals as goal

pub returns-in_default-clause-none : goal.returns-in_default-clause-none
returns-in_default-clause-none c =
    right_other c.args.tsns.now.items c.args.at c.args.own c.args.run c.in-Some.marks c.requires.around c.if-run.false
    (sym c.fragment_marks_at.ensures ∙ c.in-Some.is) c.if-marks-own.false

pub returns-in_default-2-clause-none : goal.returns-in_default-2-clause-none
returns-in_default-2-clause-none c =
    right_begins c.args.tsns.now.items c.args.at c.args.own c.args.run c.in-Some.marks c.requires.around
    c.if-run.false (sym c.fragment_marks_at.ensures ∙ c.in-Some.is) (is_so c.in-Some.marks.beginning c.if-not-marks.false)
