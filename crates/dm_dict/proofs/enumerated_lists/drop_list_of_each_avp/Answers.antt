-- One definition more without its list.
use Rattle.std.proofs.Common.{arith}
use Rattle.dm_dict.proofs.OpenTables.{opened_next}
use Rattle.dm_dict.proofs.enumerated_lists.drop_list_of_each_avp.Goals as goal

pub loop-avp-preserved : goal.loop-avp-preserved
loop-avp-preserved c =
    opened_next c.args.avps.now.items c.loop-avp.avp-items c.loop-avp.avp-index c.avp-item.result c.empty.result
    c.empty.ensures c.loop-avp.invariant (omega (arith, c.loop-avp-test.true))
