-- Where both ends are there the run is a user message.
use Rattle.std.proofs.Common.{◌∙◌, sym}
use Rattle.std.proofs.lemmas.Bool.{and_parts}
use Rattle.dm_association.proofs.MessageRuns.{run_whole}
use Rattle.dm_association.proofs.message_around.completed_message_extent.Goals as goal

pub returns-clause-message : goal.returns-clause-message
returns-clause-message c =
    let both = and_parts c.turns.run.begun c.turns.run.ended (sym c.is_whole.ensures ∙ c.turns-test.false) in
    run_whole c.args.tsns.now.items c.args.at c.args.own c.turns.run c.turns.invariant both.0 both.1
