use Rattle.std.proofs.Common.{◌*◌, ◌+◌, ◌∙◌, arith}
use Rattle.dm_text.specs.SideBySide.{HasBadDigit}
use Rattle.dm_text.proofs.Read.{either_bad, read_more, run_bad, run_read}
use Rattle.dm_text.proofs.hexadecimal.read_sixteen_octets_and_marks.Goals as goal

pub returns-clause-good : goal.returns-clause-good
returns-clause-good c =
    let word = c.args.word.now in
    let octets = c.args.octets.now in
    let from = c.args.from in
    λ none i le so.
    let (left, right) = c.lower_mark_in_each_lane.ensures.both none in
    let (run, good) = run_read word c.digit_marks-front.result c.digit_marks-back.result (2 * from)
    c.digit_marks-front.ensures
    c.digit_marks-back.ensures left right in
    rw (c.octets_of_marks.ensures left right ∙ run)
    (read_more word octets from (2 * from) 16 i (omega arith) c.requires.twice c.requires.within le good so)

pub returns-clause-bad : goal.returns-clause-bad
returns-clause-bad c =
    let word = c.args.word.now in
    let from = c.args.from in
    λ fails. either_bad c.digit_marks-front.result c.digit_marks-back.result c.lower_mark_in_each_lane.result (HasBadDigit word)
    c.lower_mark_in_each_lane.ensures.each fails (run_bad word c.digit_marks-front.result (2 * from) c.digit_marks-front.ensures)
    (run_bad word c.digit_marks-back.result (2 * from + 16) c.digit_marks-back.ensures)
