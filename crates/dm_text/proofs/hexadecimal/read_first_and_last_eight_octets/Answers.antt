use Rattle.std.proofs.Common.{◌≡◌, ◌-◌, ◌*◌, ◌+◌, ◌∙◌, length, subst, sym, arith}
use Rattle.std.proofs.lemmas.Simd.{length-put_chunk}
use Rattle.std.specs.Simd.Lanes.{put_chunk}
use Rattle.dm_text.specs.SideBySide.{AreRead, HasBadDigit}
use Rattle.dm_text.proofs.Read.{back_of, either_bad, ends_read, front_of, run_bad, told}
use Rattle.dm_text.proofs.hexadecimal.read_first_and_last_eight_octets.Goals as goal

pub returns : goal.returns
returns c =
    let word = c.args.word.now in
    let octets = c.args.octets.now in
    let last = length octets - 8 in
    let read = c.octets_of_marks-read.result in
    let front = c.digit_marks-front.result in
    let back = c.digit_marks-back.result in
    let one = put_chunk 0 octets (front_of read) in
    let two = put_chunk last one (back_of read) in
    let size : length two ≡ length octets = length-put_chunk last one (back_of read) ∙ length-put_chunk 0 octets (front_of read) in
    let end : last + 8 ≡ length octets = omega arith in
    told word two c.lower_mark_in_each_lane.result c.are_all_digits.result c.are_all_digits.ensures (omega (arith, size))
    (λ none.
    let (left, right) = c.lower_mark_in_each_lane.ensures.both none in
    subst (AreRead word two) (end ∙ sym size)
    (ends_read word octets read front back last c.requires.twice end (omega arith) c.digit_marks-front.ensures
    c.digit_marks-back.ensures left right (c.octets_of_marks-read.ensures left right)))
    (λ fails. either_bad front back c.lower_mark_in_each_lane.result (HasBadDigit word) c.lower_mark_in_each_lane.ensures.each fails
    (run_bad word front 0 c.digit_marks-front.ensures) (run_bad word back (2 * last) c.digit_marks-back.ensures))
