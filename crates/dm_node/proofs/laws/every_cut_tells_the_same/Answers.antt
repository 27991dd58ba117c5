-- The laws as they are proved for tellings.
use Rattle.dm_node.specs.NodeStreams.{NodeOneTelling}
use Rattle.dm_node.proofs.Newcomers.{peer_laws}
use Rattle.dm_node.proofs.NodeCuts.{cuts_alike}
use Rattle.dm_node.proofs.NodeOnce.{wholly, told_out_once, pieces_along}
use Rattle.dm_node.proofs.laws.every_cut_tells_the_same.Goals as goal

once : (c : goal.After-given_up_is_closed_unnamed_stays_unheld) → NodeOneTelling
once c policy d s t u turns others sound h out k also =
    told_out_once c.one_front_frame_or_lasting_fault.ensures.frame c.one_front_frame_or_lasting_fault.ensures.either
    (peer_laws c.done_events_are_steps_or_drops.ensures c.each_event_keeps_peers_settled.ensures.fresh
    c.each_event_keeps_peers_settled.ensures.kept c.given_up_is_closed_unnamed_stays_unheld.ensures.alone
    c.given_up_is_closed_unnamed_stays_unheld.ensures.closed) policy d s t u turns others (wholly s.peers sound) h out k
    also

pub returns-clause-once : goal.returns-clause-once
returns-clause-once c = once c

pub returns-clause-cut : goal.returns-clause-cut
returns-clause-cut c = λ policy d piece more s m t u first others whole sound h k out all also.
    once c policy d _ t u _ whole sound
    (cuts_alike c.one_front_frame_or_lasting_fault.ensures.fault policy d piece more s m t first others h k) out all also

pub returns-clause-pieces : goal.returns-clause-pieces
returns-clause-pieces c = λ policy d pieces s t u turns whole sound h out k also.
    once c policy d _ t u turns whole sound
    (pieces_along c.one_front_frame_or_lasting_fault.ensures.fault policy d pieces s t turns h) out k also
