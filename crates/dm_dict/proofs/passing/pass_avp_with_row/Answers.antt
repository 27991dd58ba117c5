-- An AVP stands under the rule as its row tells.
use Rattle.std.proofs.Common.{Some}
use Rattle.dm_wire.specs.Borrowed.{avp_of}
use Rattle.dm_dict.specs.Faults.{group_faults}
use Rattle.dm_dict.proofs.Chains.{looked_up}
use Rattle.dm_dict.proofs.GoodBut.{one_passed}
use Rattle.dm_dict.proofs.passing.pass_avp_with_row.Goals as goal

pub returns-clause-passed : goal.returns-clause-passed
returns-clause-passed c = λ yes rule stands l m k before is.
    let avps = c.args.dictionary.now.tables.avps.items in
    let a = avp_of c.args.avp in
    let good = looked_up (group_faults c.args.groups_allowed avps) _ _ a _ _ stands.allowed
    (c.is_defined_avp_seen_good.ensures c.if-not-is_defined_avp_seen_good.false) in
    one_passed c.args.groups_allowed avps rule l m k a _ _ (Some c.args.at) before is good c.count_avp_at_entry.ensures.size
    c.count_avp_at_entry.ensures.counted stands.counts
