-- One AVP after the other.
use Rattle.std.proofs.Common.{arith}
use Rattle.dm_dict.specs.Limits.{group_limit}
use Rattle.dm_dict.proofs.message_avps.pass_leading_unmarked_nonmandatory_avps.Goals as goal

pub loop-avp-preserved : goal.loop-avp-preserved
loop-avp-preserved c = (
  λ all m h start.
      let (k, listed, before) = c.loop-avp.invariant.0 all m h start in
      let (n, is, behind) = c.in-Some.ensures.parts k listed in
      (n, behind, c.pass_unmarked_nonmandatory_avp.ensures.passed c.if-not-pass_unmarked_nonmandatory_avp.false group_limit all k n before is),
  omega (arith, c.in-Some.ensures.less, c.loop-avp.invariant.1),
)
