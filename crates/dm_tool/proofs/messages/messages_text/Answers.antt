use Rattle.std.proofs.Common.{◌≡◌, ◌&&◌, List, [], ℕ, ap, sym, ◌∙◌, subst, true, false}
use Rattle.dm_text.specs.Lines.{trimmed, is_skipped, content_lines}
use Rattle.dm_tool.specs.HexLines.{PrintsLine}
use Rattle.dm_tool.specs.Tasks.{answer_of}
use Rattle.dm_tool.proofs.Shown.{content-line, prints-next, prints-none, prints-all}
use Rattle.dm_tool.proofs.messages.messages_text.Goals as goal

pub loop-line-preserved-then-good : goal.loop-line-preserved-then-good
loop-line-preserved-then-good c =
    let shown = c.in_ok-fine.ensures.printed in
    let Line : List ℕ → Type 0 = λ l. PrintsLine (answer_of c.args.task) l shown.0 c.in_ok-fine.fine in
    let skipped : is_skipped (trimmed c.in-Some.line.now) ≡ false = ap is_skipped (sym c.trim_spaces-line.ensures)
    ∙ sym c.is_empty_or_comment.ensures ∙ c.if-not-is_empty_or_comment.true in
    prints-next (answer_of c.args.task) (content_lines c.args.input.now) (content_lines c.loop-line.line-iterator)
    (content_lines c.next.new.self)
    (trimmed c.in-Some.line.now) c.loop-line.text.items shown.0 _ c.loop-line.good
    c.in_ok-fine.fine c.in_ok-fine.fine
    (content-line c.loop-line.line-iterator c.next.new.self c.in-Some.line.now c.in-Some.ensures.steps skipped)
    (subst Line c.trim_spaces-line.ensures shown.2) shown.1
    (ap (λ v. v && c.in_ok-fine.fine) (sym c.if-good.true)) c.loop-line.invariant

pub loop-line-preserved-else-good : goal.loop-line-preserved-else-good
loop-line-preserved-else-good c =
    let shown = c.in_ok-fine.ensures.printed in
    let Line : List ℕ → Type 0 = λ l. PrintsLine (answer_of c.args.task) l shown.0 c.in_ok-fine.fine in
    let skipped : is_skipped (trimmed c.in-Some.line.now) ≡ false = ap is_skipped (sym c.trim_spaces-line.ensures)
    ∙ sym c.is_empty_or_comment.ensures ∙ c.if-not-is_empty_or_comment.true in
    prints-next (answer_of c.args.task) (content_lines c.args.input.now) (content_lines c.loop-line.line-iterator)
    (content_lines c.next.new.self)
    (trimmed c.in-Some.line.now) c.loop-line.text.items shown.0 _ c.loop-line.good
    c.in_ok-fine.fine c.loop-line.good
    (content-line c.loop-line.line-iterator c.next.new.self c.in-Some.line.now c.in-Some.ensures.steps skipped)
    (subst Line c.trim_spaces-line.ensures shown.2) shown.1
    (c.if-good.false ∙ ap (λ v. v && c.in_ok-fine.fine) (sym c.if-good.false)) c.loop-line.invariant

pub returns-clause-printed : goal.returns-clause-printed
returns-clause-printed c =
    prints-all (answer_of c.args.task) _ _ _ (c.loop-line.invariant [] true
    (prints-none (answer_of c.args.task) c.loop-line.line-iterator c.in-None.ensures.steps.0))
