-- What lasts from any peer on, and the peer that a history leaves.
use Rattle.std.proofs.Common.{◌≡◌, Ok, Err, List, [], ◌∷◌, ◌++◌, refl, sym, subst, ap, ◌∙◌}
use Rattle.dm_peer.specs.declared.actions.Action.{Action}
use Rattle.dm_peer.specs.declared.peer.Peer.{Peer}
use Rattle.dm_peer.specs.Events.{PeerEvent}
use Rattle.dm_peer.specs.Acts.{Moved, acts}
use Rattle.dm_peer.specs.Settled.{IsSettled, EachEventKeepsSettled}
use Rattle.dm_history.specs.History.{Happened, declined_at, Became, untold, done, declined}
use Rattle.dm_history.specs.Telling.{EventReply, RepliesSo, Replied, unasked, asked, happened_in}
use Rattle.dm_history.specs.Replaying.{peer_left, peer_after, HoldsThroughout}
use Rattle.dm_history.proofs.Lasting.{settled_next}

pub settled_through : EachEventKeepsSettled → (first : Peer) (past : List Happened) (p : Peer) → IsSettled first →
    Became first past p → IsSettled p
settled_through kept first past p was untold = was
settled_through kept first past p was (done older q e actions after lived is) =
    settled_next kept q e actions after is (settled_through kept first older q was lived)
settled_through kept first past p was (declined older q e lived) = settled_through kept first older q was lived

pub peer_is : (first : Peer) (past : List Happened) (p : Peer) → Became first past p → p ≡ peer_after first past
peer_is first past p untold = refl
peer_is first past p (done older q e actions after lived is) =
    sym (ap (λ r. peer_left r (acts r e)) (sym (peer_is first older q lived)) ∙ ap (peer_left q) is)
peer_is first past p (declined older q e lived) = peer_is first older q lived

-- one history behind another
pub lived_on : (first q : Peer) (past : List Happened) → Became first past q → (run : List Happened) (p : Peer) →
    Became q run p → Became first (run ++ past) p
lived_on first q past before run p untold = before
lived_on first q past before run p (done older r e actions after lived is) =
    done (older ++ past) r e actions after (lived_on first q past before older r lived) is
lived_on first q past before run p (declined older r e lived) =
    declined (older ++ past) r e (lived_on first q past before older r lived)

-- the history of a run
one_reply : (first : Peer) (past : List Happened) (p : Peer) (e : PeerEvent) (reply : EventReply) (next : Peer) →
    Became first past p → RepliesSo p e reply next → Became first (happened_in (e ∷ []) (reply ∷ []) ++ past) next
one_reply first past p e (Ok actions) next lived is = done past p e actions.items next lived is
one_reply first past p e (Err f) next lived is =
    subst (λ (q : Peer). Became first (declined_at e ∷ past) q) (sym is.1) (declined past p e lived)

pub replied_lived : (first : Peer) (events : List PeerEvent) (replies : List EventReply) (p : Peer) →
    Replied first events replies p → Became first (happened_in events replies) p
replied_lived first events replies p unasked = untold
replied_lived first events replies p (asked older before q e reply next was so) =
    one_reply first (happened_in older before) q e reply next (replied_lived first older before q was) so

-- what holds at each step holds throughout
pub throughout : (P : Peer → PeerEvent → List Action → Type 0) (first : Peer) →
    ((past : List Happened) (q : Peer) (e : PeerEvent) (actions : List Action) (next : Peer) → Became first past q →
    acts q e ≡ Moved actions next → P q e actions) → (past : List Happened) (p : Peer) → Became first past p →
    HoldsThroughout P first past
throughout P first each past p untold = tt
throughout P first each past p (done older q e actions after lived is) = (
  subst (λ (r : Peer). P r e actions) (peer_is first older q lived) (each older q e actions after lived is),
  throughout P first each older q lived,
)
throughout P first each past p (declined older q e lived) = (tt, throughout P first each older q lived)
