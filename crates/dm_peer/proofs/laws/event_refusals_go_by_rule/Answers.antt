-- By the state machine's refusals.
use Rattle.dm_peer.proofs.Refusing.{refuses_by_rule}
use Rattle.dm_peer.proofs.laws.event_refusals_go_by_rule.Goals as goal

pub returns : goal.returns
returns c = refuses_by_rule c.each_state_decides_refusals_and_elections.ensures.refused
