use Rattle.std.proofs.Common.{[], sym, ◌∙◌, append-nil}
use Rattle.dm_view_lines.proofs.Steps.{says-none, says-some}
use Rattle.dm_view_lines.proofs.line_reports.put_numbered_octets_report.Goals as goal

pub returns : goal.returns
returns c =
    let (said, is, says) = c.in_ok-good.ensures in (
      said,
      is,
      says-some c.args.task c.args.dictionary.now c.args.number c.args.octets.now said c.in_ok-good.good
          (sym c.is_empty.ensures ∙ c.if-is_empty.false) says,
    )

pub returns-then-is_empty : goal.returns-then-is_empty
returns-then-is_empty c = (
  [],
  sym (append-nil _),
  says-none c.args.task c.args.dictionary.now c.args.number c.args.octets.now (sym c.is_empty.ensures ∙ c.if-is_empty.true),
)
