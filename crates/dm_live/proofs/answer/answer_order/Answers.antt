use Rattle.std.proofs.Common.{◌++◌, ℕ, Some, None, Ok, ap, ◌∙◌, refl, append_assoc}
use Rattle.std.specs.String.{string_bytes}
use Rattle.dm_live.specs.AnswerLines.{action_lines}
use Rattle.dm_live.specs.Answers.{neighbour_line}
use Rattle.dm_live.specs.Meetings.{meeting_of}
use Rattle.dm_node.specs.Answers.{as_answer, asks_as, asks_of}
use Rattle.dm_live.proofs.Turns.{asks_told, taken_so}
use Rattle.dm_live.proofs.answer.answer_order.Goals as goal

pub returns-in-Nothing : goal.returns-in-Nothing
returns-in-Nothing c =
    let told = c.order.new.answer in
    let put = c.put_ignored_unless_accept_or_reset.ensures in
    taken_so _ c.args.form c.args.order (meeting_of c.args.node.now) (meeting_of c.order.new.self) (asks_of told) None _ _
    c.in-Ok.ensures.taken c.in-Ok.ensures.met (ap (λ v. asks_as v (as_answer told)) c.in-Nothing.is) put.who put.text

pub returns-in_ok-put_action_lines-in_default : goal.returns-in_ok-put_action_lines-in_default
returns-in_ok-put_action_lines-in_default c =
    let told = c.order.new.answer in
    let lines = action_lines told.actions.items in
    let put = rw (c.as_slice.ensures.value) at c.in_ok-put_action_lines-in_default.ensures in
    taken_so {E = ℕ} (Ok told.neighbour) c.args.form c.args.order (meeting_of c.args.node.now)
    (meeting_of c.order.new.self) (asks_of told) (Some (as_answer told)) (string_bytes c.args.text.now)
    (string_bytes c.put_action_lines.new.text) c.in-Ok.ensures.taken c.in-Ok.ensures.met
    (asks_told told.told (as_answer told) c.in_default.not-Nothing) refl
    (put ∙ ap (λ v. v ++ lines) c.in_ok-put_neighbour_line_if_any-in_default.ensures
    ∙ append_assoc (string_bytes c.args.text.now) (neighbour_line c.args.form told.neighbour) lines)
