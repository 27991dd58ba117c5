-- One AVP more.
use Rattle.std.proofs.Common.{◌≡◌, ◌+◌, ◌*◌, ◌/◌, sym, length, take, arith, length-append}
use Rattle.dm_wire.specs.Spelling.{avp_length}
use Rattle.dm_wire.specs.Canonical.{canonical_avp, canonical_list}
use Rattle.dm_wire.proofs.Canonicals.{canonical_size, list_more, list_more_spelled, either}
use Rattle.dm_wire.proofs.size.wrapping_avp_list_size.Goals as goal

pub loop-avp-preserved : goal.loop-avp-preserved
loop-avp-preserved c =
    let l = c.args.avps.now in
    let i = c.loop-avp.avp-index in
    let a = c.avp-item.result in
    let before = c.loop-avp.invariant in
    let more = list_more l i a c.loop-avp-test.true c.avp-item.is in
    let size : length (canonical_avp a) ≡ (avp_length a + 3) / 4 * 4 = canonical_size a in
    let len = c.unpadded_avp_len-length.ensures in
    record {
      few = omega (arith, before.few, c.one_if_too_long-long.ensures.one);
      spelled = λ none. list_more_spelled l i a c.loop-avp-test.true c.avp-item.is (before.spelled (omega arith))
          (len.spelled (c.one_if_too_long-long.ensures.none (omega arith)));
      long = λ some. either c.loop-avp.long c.one_if_too_long-long.result some before.long
          (λ h. (i, a, c.loop-avp-test.true, sym c.avp-item.is, rw len.len at c.one_if_too_long-long.ensures.some h));
      size = rw (more, length-append (canonical_list (take i l)) (canonical_avp a), len.len)
          (omega (arith, size, before.size));
    }
