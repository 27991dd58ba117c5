-- By the cases of an event, and the few steps.
use Rattle.dm_peer.proofs.Following.{one_step}
use Rattle.dm_peer.proofs.laws.done_events_are_steps_or_drops.Goals as goal

pub returns : goal.returns
returns c = one_step c.few_steps_stand_for_all.ensures
