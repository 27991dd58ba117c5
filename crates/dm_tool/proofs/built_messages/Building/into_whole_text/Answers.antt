use Rattle.dm_tool.proofs.Buildings.{stands-end}
use Rattle.dm_tool.proofs.built_messages.Building.into_whole_text.Goals as goal

pub returns-clause-built : goal.returns-clause-built
returns-clause-built c = λ lines stands.
    let built = c.in_ok-push_last_message_and_clear_avps.ensures.built in
    stands-end lines c.args.self.last c.args.self.avps.items c.args.self.text.items built.0 _
    c.args.self.good built.1 _ built.2 built.3 built.4 stands
