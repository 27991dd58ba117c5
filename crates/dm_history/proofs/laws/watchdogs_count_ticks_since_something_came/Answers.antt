use Rattle.dm_history.proofs.Counts.{counts}
use Rattle.dm_history.proofs.laws.watchdogs_count_ticks_since_something_came.Goals as goal

pub returns : goal.returns
returns c = counts c.shaped_cores_have_eight_forms.ensures.formed c.events_are_steps_drops_or_refusals.ensures
    c.each_event_keeps_peers_settled.ensures.kept c.few_steps_stand_for_all.ensures
