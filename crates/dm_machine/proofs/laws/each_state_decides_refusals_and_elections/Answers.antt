use Rattle.dm_machine.proofs.StateLaws.{refuses_by_state, winner_counts}
use Rattle.dm_machine.proofs.laws.each_state_decides_refusals_and_elections.Goals as goal

pub returns : goal.returns
returns c = record { refused = refuses_by_state; elected = winner_counts }
