use Rattle.std.proofs.Common.{inl, inr, refl, sym, subst}
use Rattle.dm_live.specs.Drafts.{settings_of}
use Rattle.dm_live.specs.Meetings.{meeting_of}
use Rattle.dm_live.specs.declared.begun.Begun.{Begun}
use Rattle.dm_live.specs.Served.{AnswersLine, bad_answer}
use Rattle.dm_live.specs.Stages.{stage_at}
use Rattle.dm_live.proofs.Stages.{answers, gone_line, running_line}
use Rattle.dm_live.proofs.live.Live.answer_line.Goals as goal

pub returns-then-is_go : goal.returns-then-is_go
returns-then-is_go c =
    gone_line c.args.number c.args.line.now (settings_of c.args.self.now.draft) c.args.self.now.begun _
    c.in_ok-begun.begun _ _ c.in_default.is c.replace.ensures.after (c.is_go.ensures.told c.if-is_go.true)
    c.in_ok-begun.ensures

pub returns-in-Running : goal.returns-in-Running
returns-in-Running c =
    running_line _ c.args.number c.args.line.now (settings_of c.args.self.now.draft) c.args.self.now.begun
    c.in-Running.form c.in-Running.node (meeting_of c.answer_line_by_running_node.new.node) _ _ c.in-Running.is
    c.answer_line_by_running_node.ensures

pub returns : goal.returns
returns c =
    let n = c.args.number in
    let t = settings_of c.take_line.new.self in
    let At : Begun → Type 0 = λ b. AnswersLine n c.args.line.now (stage_at (settings_of c.args.self.now.draft) b) (stage_at t b) (bad_answer n) in
    answers c.put_fault_line_and_dot.result _ _ _ (bad_answer n)
    (subst At (sym c.in_default.is)
    (inl (inr (c.is_go.ensures.none c.if-is_go.false, c.in_ok-take_line.ensures.bad c.if-branch.false, c.in_ok-take_line.ensures.kept c.if-branch.false, refl))))
    c.put_fault_line_and_dot.ensures
