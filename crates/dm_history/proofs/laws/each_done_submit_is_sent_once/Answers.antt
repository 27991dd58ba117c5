use Rattle.dm_history.proofs.Submits.{submit_sent, run_sends}
use Rattle.dm_history.proofs.laws.each_done_submit_is_sent_once.Goals as goal

pub returns : goal.returns
returns c =
    let law = submit_sent c.shaped_cores_have_eight_forms.ensures.formed in
    record { once = law; throughout = run_sends law c.each_event_keeps_peers_settled.ensures.kept }
