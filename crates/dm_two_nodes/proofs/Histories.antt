-- Histories under other numbers of connections.
use Rattle.std.proofs.Common.{◌≡◌, List, refl, sym, ap, ◌∙◌}
use Rattle.dm_peer.specs.declared.peer.Peer.{Peer}
use Rattle.dm_peer.specs.Acts.{acts}
use Rattle.dm_history.specs.History.{Happened, new_peer, Became, untold, done, declined}
use Rattle.dm_history.specs.Replaying.{peer_left, peer_after}
use Rattle.dm_two_nodes.specs.Renaming.{renumbered_event, renumbered_actions, renumbered_acts, renumbered_peer, PeersGoByNoNumber}
use Rattle.dm_two_nodes.specs.Histories.{renumbered_past, HistoryTellsThePeer, HistoriesGoByNoNumber, SameHistoryMakesTheSame}

-- the peer that a history leaves, computed
left_by_history : (first : Peer) (past : List Happened) (p : Peer) → Became first past p → p ≡ peer_after first past
left_by_history first past p untold = refl
left_by_history first past p (done older q e actions after lived is) =
    sym (ap (λ r. peer_left r (acts r e)) (sym (left_by_history first older q lived)) ∙ ap (peer_left q) is)
left_by_history first past p (declined older q e lived) = left_by_history first older q lived

pub history_tells_the_peer : HistoryTellsThePeer
history_tells_the_peer first past p q was is = left_by_history first past p was ∙ sym (left_by_history first past q is)

pub histories_go_by_no_number : PeersGoByNoNumber → HistoriesGoByNoNumber
histories_go_by_no_number law f first past p one untold = untold
histories_go_by_no_number law f first past p one (done older q e actions after lived is) =
    done (renumbered_past f older) (renumbered_peer f q) (renumbered_event f e) (renumbered_actions f actions)
    (renumbered_peer f after) (histories_go_by_no_number law f first older q one lived)
    (law f q e one ∙ ap (renumbered_acts f) is)
histories_go_by_no_number law f first past p one (declined older q e lived) =
    declined (renumbered_past f older) (renumbered_peer f q) (renumbered_event f e)
    (histories_go_by_no_number law f first older q one lived)

pub same_history_makes_the_same : PeersGoByNoNumber → SameHistoryMakesTheSame
same_history_makes_the_same law f c n past p q one was is =
    history_tells_the_peer (new_peer c n) (renumbered_past f past) q (renumbered_peer f p) is
    (histories_go_by_no_number law f (new_peer c n) past p one was)
