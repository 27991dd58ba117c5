use Rattle.std.proofs.Common.{ap, not, ◌∙◌}
use Rattle.dm_tool.proofs.Buildings.{stands-avp}
use Rattle.dm_tool.proofs.built_messages.Building.take_avp_line.Goals as goal

pub returns-in_ok-push-in-Some-clause-taken : goal.returns-in_ok-push-in-Some-clause-taken
returns-in_ok-push-in-Some-clause-taken c = λ taken lines stands.
    let told = rw c.in-Some.is at c.in_ok-avp.ensures in
    stands-avp lines c.args.line.now c.args.self.now.last c.in-Some.avp c.args.self.now.avps.items c.push.new.self.items
    c.args.self.now.text.items c.args.self.now.good (c.is_none.ensures ∙ ap not c.if-is_none.false) told
    c.in_ok-push-in-Some.ensures.items stands
