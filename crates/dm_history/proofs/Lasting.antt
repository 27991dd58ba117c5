-- What lasts through all that happens: a settled peer, and its configuration.
use Rattle.std.proofs.Common.{◌≡◌, inl, inr, ℕ, List, refl, ap, subst, ◌∙◌}
use Rattle.dm_peer.specs.declared.actions.Action.{Action}
use Rattle.dm_peer.specs.declared.config.Config.{Config}
use Rattle.dm_peer.specs.declared.peer.Peer.{Peer}
use Rattle.dm_peer.specs.Events.{PeerEvent}
use Rattle.dm_peer.specs.Acts.{Moved, acts}
use Rattle.dm_peer.specs.Settled.{IsSettled, FreshIsSettled, LeavesSettled, EachEventKeepsSettled}
use Rattle.dm_history.specs.History.{Happened, new_peer, Became, untold, done, declined}
use Rattle.dm_history.proofs.Turning.{TurnsAs, turns}

pub settled_next : EachEventKeepsSettled → (p : Peer) (e : PeerEvent) (actions : List Action) (next : Peer) →
    acts p e ≡ Moved actions next → IsSettled p → IsSettled next
settled_next kept p e actions next is settled = subst LeavesSettled is (kept p e settled)

pub stays_settled : FreshIsSettled → EachEventKeepsSettled → (config : Config) (next : ℕ) (past : List Happened)
    (p : Peer) → Became (new_peer config next) past p → IsSettled p
stays_settled fresh kept config next past p untold = fresh config next
stays_settled fresh kept config next past p (done older q e actions after lived is) =
    settled_next kept q e actions after is (stays_settled fresh kept config next older q lived)
stays_settled fresh kept config next past p (declined older q e lived) =
    stays_settled fresh kept config next older q lived

same_config : (p : Peer) (e : PeerEvent) (actions : List Action) (next : Peer) → TurnsAs p e (Moved actions next) →
    next.config ≡ p.config
same_config p e actions next (inl t) = ap (λ q. q.config) t.stands
same_config p e actions next (inr d) = ap (λ q. q.config) d.same

pub config_next : (p : Peer) (e : PeerEvent) (actions : List Action) (next : Peer) → acts p e ≡ Moved actions next →
    next.config ≡ p.config
config_next p e actions next is = same_config p e actions next (turns p e actions next is)

pub stays_configured : (config : Config) (next : ℕ) (past : List Happened) (p : Peer) →
    Became (new_peer config next) past p → p.config ≡ config
stays_configured config next past p untold = refl
stays_configured config next past p (done older q e actions after lived is) =
    config_next q e actions after is ∙ stays_configured config next older q lived
stays_configured config next past p (declined older q e lived) = stays_configured config next older q lived
