use Rattle.std.proofs.Common.{◌≡◌, ap, ◌∙◌}
use Rattle.dm_view_lines.specs.Colours.{styled, SaysStreamStyled}
use Rattle.dm_view_lines.proofs.Ends.{ends-by}
use Rattle.dm_view_lines.proofs.written_text.write_stream_report.Goals as goal

pub returns-clause-stopped : goal.returns-clause-stopped
returns-clause-stopped g c =
    let style = styled c.args.coloured c.args.task in
    ends-by (λ whole fine. whole ≡ style c.as_slice.result.now)
    (SaysStreamStyled c.args.coloured c.args.task c.args.dictionary.now c.args.input.now) c.in_ok-text.is_good _ _ c.in-Err.fault
    (λ whole fine is. (c.in_ok-text.text.items, c.in_ok-text.ensures, is ∙ ap style c.as_slice.ensures.value))
    c.in-Err.ensures.stopped
