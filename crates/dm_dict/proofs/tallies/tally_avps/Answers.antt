-- One AVP after the other.
use Rattle.dm_dict.proofs.tallies.tally_avps.Goals as goal

pub loop-avp-preserved : goal.loop-avp-preserved
loop-avp-preserved c = λ all h empty.
    let avps = c.args.tables.now.avps.items in
    let rule = c.args.rule.entries.now in
    let (m, listed, tallied) = c.loop-avp.invariant all h empty in
    let (k, is, behind) = c.in-Some.ensures.parts m listed in
    (k, behind, c.tally_at_entry.ensures avps rule all k c.look_up_avp-at.ensures.counts (rw is at tallied))
