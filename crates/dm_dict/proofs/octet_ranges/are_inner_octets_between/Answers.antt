-- One run more.
use Rattle.std.proofs.Common.{◌-◌, ◌∙◌, length, sym, arith}
use Rattle.std.specs.Int.{is_in_range}
use Rattle.dm_dict.proofs.Lanes.{all_of_both, run_fails, run_more}
use Rattle.dm_dict.proofs.octet_ranges.are_inner_octets_between.Goals as goal

pub returns-then-not-are_marks_zero : goal.returns-then-not-are_marks_zero
returns-then-not-are_marks_zero c =
    sym (run_fails (is_in_range c.args.least c.args.most) c.args.octets.now c.loop-at.at
    (sym c.range_excess.ensures ∙ sym c.if-not-are_marks_zero.ensures))

pub loop-at-preserved : goal.loop-at-preserved
loop-at-preserved c = (
  omega arith,
  run_more (is_in_range c.args.least c.args.most) c.args.octets.now c.loop-at.at c.loop-at.invariant.1
      (sym c.range_excess.ensures ∙ sym c.if-not-are_marks_zero.ensures),
)

pub returns : goal.returns
returns c =
    let s = c.args.octets.now in
    sym (all_of_both (is_in_range c.args.least c.args.most) s c.loop-at.at (length s - 16) (omega arith)
    c.loop-at.invariant.1 c.requires.last)
