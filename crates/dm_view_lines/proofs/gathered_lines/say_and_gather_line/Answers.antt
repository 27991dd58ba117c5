use Rattle.std.proofs.Common.{[]}
use Rattle.dm_view_lines.proofs.Turning.{handed_on, line_told, line_left, breaks-none}
use Rattle.dm_view_lines.proofs.gathered_lines.say_and_gather_line.Goals as goal

pub returns-in_err-number-clause-stopped : goal.returns-in_err-number-clause-stopped
returns-in_err-number-clause-stopped g c =
    handed_on _ _ c.in_err-number.field-0.0 c.from_residual.ensures.1
    (breaks-none _ _ _ _ _ [] _ _ _ c.in_err-number.ensures.long)

pub returns-in_err-gather_text_and_write_if_full-clause-stopped :
    goal.returns-in_err-gather_text_and_write_if_full-clause-stopped
returns-in_err-gather_text_and_write_if_full-clause-stopped g c =
    handed_on _ _ c.in_err-gather_text_and_write_if_full.field-0.0
    c.from_residual-in_err-gather_text_and_write_if_full.ensures.1
    (line_left _ _ _ _ _ _ _ _ _ _ _ _ _ _ _ c.in_ok-going.ensures.said c.clear.ensures.bytes
    c.as_bytes.ensures.value c.in_ok-number.ensures.next c.in_ok-number.ensures.within
    c.in_err-gather_text_and_write_if_full.ensures.fault c.in_err-gather_text_and_write_if_full.ensures.stopped)

pub returns-clause-told : goal.returns-clause-told
returns-clause-told g c =
    line_told _ _ _ _ _ _ _ _ _ _ _ _ _ _ _ c.in_ok-going.ensures.said c.clear.ensures.bytes
    c.as_bytes.ensures.value c.in_ok-number.ensures.next c.in_ok-number.ensures.within
    c.in_ok-gather_text_and_write_if_full.ensures.gathered
