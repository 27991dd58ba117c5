-- By how the states are entered.
use Rattle.dm_peer.proofs.Settling.{fresh_is_settled, each_event_keeps_settled}
use Rattle.dm_peer.proofs.laws.each_event_keeps_peers_settled.Goals as goal

pub returns-clause-fresh : goal.returns-clause-fresh
returns-clause-fresh c = fresh_is_settled

pub returns-clause-kept : goal.returns-clause-kept
returns-clause-kept c = each_event_keeps_settled c.few_steps_stand_for_all.ensures c.steps_keep_shape_in_few_commands.ensures
