-- One entry after the other.
use Rattle.std.proofs.Common.{length, arith, rules, ap}
use Rattle.dm_dict.proofs.Tallied.{one_more}
use Rattle.dm_dict.proofs.tallies.empty_tallies.Goals as goal

pub loop-entry-preserved : goal.loop-entry-preserved
loop-entry-preserved c =
    let (size, old) = c.loop-entry.invariant in
    let entries = c.as_slice-entries.result.now in (
      search rules,
      rw c.in_ok-push.ensures.items
          (one_more entries c.loop-entry.tallies.items c.loop-entry.entry-index c.entry-item.result
          c.before_counting.result size
          c.loop-entry-test.true c.entry-item.is c.before_counting.ensures old),
    )

pub returns-clause-tallied : goal.returns-clause-tallied
returns-clause-tallied c = λ avps l.
    let (size, each) = c.loop-entry.invariant in
    let all = ap length c.as_slice-entries.ensures in
    record {
      size = omega arith;
      each = λ i e t below e_is t_is. each i e t _ (omega arith) (rw c.as_slice-entries.ensures e_is) t_is;
    }
