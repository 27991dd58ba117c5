use Rattle.dm_peer.proofs.Cases.{cases}
use Rattle.dm_peer.proofs.laws.events_are_steps_drops_or_refusals.Goals as goal

pub returns : goal.returns
returns c = cases
