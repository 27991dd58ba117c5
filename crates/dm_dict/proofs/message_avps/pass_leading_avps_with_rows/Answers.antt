-- One AVP after the other.
use Rattle.std.proofs.Common.{arith}
use Rattle.dm_dict.proofs.message_avps.pass_leading_avps_with_rows.Goals as goal

pub loop-avp-preserved : goal.loop-avp-preserved
loop-avp-preserved c = (
  λ all m h start.
      let (k, listed, before) = c.loop-avp.invariant.0 all m h start in
      let (n, is, behind) = c.in-Some.ensures.parts k listed in (
        n,
        behind,
        c.pass_avp_with_row.ensures.passed c.if-not-pass_avp_with_row.false c.args.rule.entries.now
            c.in-Some-allowed_row_for_avp_by_seat.ensures all k n
            before is,
      ),
  omega (arith, c.in-Some.ensures.less, c.loop-avp.invariant.1),
)
