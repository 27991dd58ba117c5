use Rattle.std.proofs.Common.{◌≡◌, ◌*◌, ◌+◌, ◌-◌, ◌/◌, length, subst, arith}
use Rattle.dm_view_lines.specs.OneWord.{NoneEnds}
use Rattle.dm_view_lines.proofs.OneWords.{none_in_run}
use Rattle.dm_view_lines.proofs.one_word.has_surely_no_word_end.Goals as goal

pub returns : goal.returns
returns c =
    let line = c.args.line.now in
    let last = length line - 16 in
    let end : last + 16 ≡ length line = omega arith in
    λ high.
    let none = c.are_marks_high-2.ensures high in
    subst (NoneEnds line) end (none_in_run line c.word_end_marks-last.result last (16 * ((length line - 1) / 16))
    (omega arith)
    (omega arith) c.word_end_marks-last.ensures (c.lower_marks-2.ensures.second none)
    (c.lowest_run_marks-lowest.ensures (c.lower_marks-2.ensures.first none)))
