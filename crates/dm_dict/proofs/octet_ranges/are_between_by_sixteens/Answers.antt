-- What the first and the last sixteen tell.
use Rattle.std.proofs.Common.{◌≡◌, ◌-◌, ◌∙◌, true, length, leb, sym, arith}
use Rattle.std.proofs.lemmas.Bool.Decides.{nat_tests}
use Rattle.std.specs.Int.{is_in_range}
use Rattle.dm_dict.proofs.Lanes.{all_of_both, ends_fail, ends_pass}
use Rattle.dm_dict.proofs.octet_ranges.are_between_by_sixteens.Goals as goal

pub are_inner_octets_between-requires-clause-first : goal.are_inner_octets_between-requires-clause-first
are_inner_octets_between-requires-clause-first c =
    (ends_pass (is_in_range c.args.least c.args.most) c.args.octets.now c.are_marks_zero.result c.requires.long
    (c.are_marks_zero.ensures ∙ c.higher_mark_in_each_lane.ensures) c.range_excess-first.ensures c.range_excess-last.ensures
    c.if-are_marks_zero.true).0

pub are_inner_octets_between-requires-clause-last : goal.are_inner_octets_between-requires-clause-last
are_inner_octets_between-requires-clause-last c =
    (ends_pass (is_in_range c.args.least c.args.most) c.args.octets.now c.are_marks_zero.result c.requires.long
    (c.are_marks_zero.ensures ∙ c.higher_mark_in_each_lane.ensures) c.range_excess-first.ensures c.range_excess-last.ensures
    c.if-are_marks_zero.true).1

pub returns-then-octets-le32 : goal.returns-then-octets-le32
returns-then-octets-le32 c =
    let s = c.args.octets.now in
    let (front, back) = ends_pass (is_in_range c.args.least c.args.most) s c.are_marks_zero.result c.requires.long
    (c.are_marks_zero.ensures ∙ c.higher_mark_in_each_lane.ensures) c.range_excess-first.ensures c.range_excess-last.ensures
    c.if-are_marks_zero.true in
    let short : leb (length s) 32 ≡ true = grind (arith, nat_tests) in
    short ∙ sym (all_of_both (is_in_range c.args.least c.args.most) s 16 (length s - 16) (omega arith) front back)

pub returns-else-are_marks_zero : goal.returns-else-are_marks_zero
returns-else-are_marks_zero c =
    c.if-are_marks_zero.false
    ∙ sym (ends_fail (is_in_range c.args.least c.args.most) c.args.octets.now c.are_marks_zero.result
    (c.are_marks_zero.ensures ∙ c.higher_mark_in_each_lane.ensures) c.range_excess-first.ensures c.range_excess-last.ensures
    c.if-are_marks_zero.false)
