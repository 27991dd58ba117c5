-- The first one goes, which is done.
use Rattle.std.proofs.Common.{◌∙◌, ◌+◌, ◌%◌, sym, refl, arith}
use Rattle.dm_association.proofs.TsnSteps.{front_more}
use Rattle.dm_association.proofs.tsns.drop_done_front_tsns.Goals as goal

pub done-preserved-in-done-2 : goal.done-preserved-in-done-2
done-preserved-in-done-2 c = (
  front_more (record { next = c.args.from; tsns = c.args.tsns.now.items })
      (record { next = c.done.next; tsns = c.done.tsns.items })
      (record { next = (c.done.next + 1) % 4294967296; tsns = c.pop_front-front.new.self.items }) c.done.invariant.0
      (sym c.is_front_done.ensures ∙ c.done-test.true) c.pop_front-front.ensures.rest refl,
  omega arith,
)
