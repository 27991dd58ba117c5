use Rattle.std.proofs.Common.{ℕ, List, Option, MatchOption, IfNone, inl, inr, refl, subst, sym}
use Rattle.dm_live.specs.declared.form.Form.{Form}
use Rattle.dm_live.specs.declared.order_line.OrderLine.{OrderLine}
use Rattle.dm_live.specs.Meetings.{meeting_of}
use Rattle.dm_live.specs.OrderLines.{TellsOrder}
use Rattle.dm_live.specs.SenderLines.{IsSender}
use Rattle.dm_live.specs.Served.{bad_answer, AnswersOrder}
use Rattle.dm_live.proofs.Stages.{answers, answers_with_dot}
use Rattle.dm_live.proofs.live.answer_line_by_running_node.Goals as goal

-- what is read of a line
abbrev Reads : Form → List ℕ → Option OrderLine → Type 0
Reads form line read =
    MatchOption read ((o : OrderLine) → TellsOrder form o line → ⊥) (λ o. TellsOrder form o line)

pub returns-in_ok-answer_asked_without_dot-in-Some-2 : goal.returns-in_ok-answer_asked_without_dot-in-Some-2
returns-in_ok-answer_asked_without_dot-in-Some-2 c =
    let answered = c.in_ok-answer_asked_without_dot-in-Some-2.ensures in
    let Tells : OrderLine → Type 0 = λ v. TellsOrder c.args.form v c.args.line.now in
    let read = subst (Reads c.args.form c.args.line.now) c.in-Some-2.is c.in_ok-order.ensures in
    answers_with_dot _
    (AnswersOrder c.args.number c.args.form c.args.line.now (meeting_of c.args.node.now)
    (meeting_of c.answer_asked_without_dot.new.node)) _ _ _ answered.0
    (inl (_, answered.0, subst Tells (sym c.as_order_or_piece.ensures) read, answered.1, refl)) answered.2
    c.push_str-in-Some-2.ensures.bytes

pub returns-in-None : goal.returns-in-None
returns-in-None c =
    let s = meeting_of c.args.node.now in
    let asks_none = subst (λ v. IfNone v ((i : ℕ) → IsSender c.args.form i c.args.line.now → ⊥))
    c.in_default.is c.read_sender_line.ensures.none in
    let tells_none = subst (Reads c.args.form c.args.line.now) c.in-None.is c.in_ok-order.ensures in
    answers _ (AnswersOrder c.args.number c.args.form c.args.line.now s s) _ _ (bad_answer c.args.number)
    (inr (inr (asks_none, tells_none, refl, refl))) c.put_fault_line_and_dot.ensures
