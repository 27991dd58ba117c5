use Rattle.std.proofs.Common.{inr, inl, refl}
use Rattle.dm_live.specs.declared.fault.LiveFault.TheVariants.{Memory}
use Rattle.dm_live.proofs.Serving.{handed_on, line_said, served_all, served_more, stopped, stopped_writing}
use Rattle.dm_live.proofs.serve.answer_all_lines.Goals as goal

pub returns-in_err-next_line-clause-stopped : goal.returns-in_err-next_line-clause-stopped
returns-in_err-next_line-clause-stopped g c =
    handed_on _ _ c.in_err-next_line.field-0.0 c.from_residual.ensures.1
    (stopped _ _ _ _ _ _ _ c.line.invariant c.in_err-next_line.ensures.fault)

pub returns-then-not-branch-clause-whole : goal.returns-then-not-branch-clause-whole
returns-then-not-branch-clause-whole g c =
    served_all _ _ _ _ _ _ _ _ _ c.line.invariant c.in_ok-next_line.ensures.given c.if-not-branch.true

pub returns-in_err-answer_line-clause-stopped : goal.returns-in_err-answer_line-clause-stopped
returns-in_err-answer_line-clause-stopped g c =
    handed_on _ _ Memory c.from_residual-in_err-answer_line.ensures.1
    (stopped _ _ _ _ _ _ Memory c.line.invariant (inr refl))

pub returns-in-Err-clause-stopped : goal.returns-in-Err-clause-stopped
returns-in-Err-clause-stopped g c =
    stopped_writing _ _ _ _ _ _ _ _ _ _ _ _ c.line.invariant c.in_ok-next_line.ensures.given c.if-not-branch.false
    (line_said _ _ _ _ _ _ _ _ c.as_slice.ensures.value c.in_ok-answer_line.ensures c.clear.ensures.bytes
    c.as_bytes.ensures.value)
    c.in-Err.ensures.front

pub line-preserved : goal.line-preserved
line-preserved g c =
    served_more _ _ _ _ _ _ _ _ _ _ _ _ c.line.invariant c.in_ok-next_line.ensures.given c.if-not-branch.false
    (line_said _ _ _ _ _ _ _ _ c.as_slice.ensures.value c.in_ok-answer_line.ensures c.clear.ensures.bytes
    c.as_bytes.ensures.value)
    c.in-Ok.ensures.whole

pub returns-clause-stopped : goal.returns-clause-stopped
returns-clause-stopped g c = stopped _ _ _ _ _ _ _ c.line.invariant (inl refl)
