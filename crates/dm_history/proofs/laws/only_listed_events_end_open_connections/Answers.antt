use Rattle.dm_history.proofs.Stays.{stays}
use Rattle.dm_history.proofs.Counts.{lasts}
use Rattle.dm_history.proofs.laws.only_listed_events_end_open_connections.Goals as goal

pub returns : goal.returns
returns c =
    let law = stays c.shaped_cores_have_eight_forms.ensures.formed c.events_are_steps_drops_or_refusals.ensures
    c.each_event_keeps_peers_settled.ensures.kept in
    record { exactly = law; lasts = lasts law c.each_event_keeps_peers_settled.ensures.kept }
