use Rattle.dm_wire.specs.Borrowed.{avp_of}
use Rattle.dm_base.proofs.Ids.{next_told}
use Rattle.dm_base.proofs.received_avps.push_application_ids.Goals as goal

pub loop-avp-preserved : goal.loop-avp-preserved
loop-avp-preserved c = λ all lists.
    let i = c.loop-avp.invariant all lists in
    let p = c.in-Some.ensures.parts i.0 i.1 in
    let n = next_told c.args.ids.now.items c.loop-avp.ids.items _ (avp_of c.in-Some.avp) i.0 p.0 all p.1
    c.in_ok-push_application_ids_of_avp.ensures.put i.2 i.3 in
    (p.0, p.2, n.0, n.1)
