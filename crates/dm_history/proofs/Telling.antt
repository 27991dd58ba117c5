-- How an open connection was opened: each event keeps what the connections have been through.
use Rattle.std.proofs.Common.{inl, inr, ℕ, List, ◌∷◌, sym, subst}
use Rattle.dm_machine.specs.declared.connection.Conn.{Conn}
use Rattle.dm_machine.specs.Connection.{Hold, OpenAsI, OpenAsR, hold_of}
use Rattle.dm_peer.specs.declared.actions.Action.{Action}
use Rattle.dm_peer.specs.declared.config.Config.{Config}
use Rattle.dm_peer.specs.declared.peer.Peer.{Peer}
use Rattle.dm_peer.specs.declared.standing.Standing.{Standing}
use Rattle.dm_peer.specs.Events.{PeerEvent}
use Rattle.dm_peer.specs.Sent.{actions_of}
use Rattle.dm_peer.specs.After.{request_in, standing_after}
use Rattle.dm_peer.specs.Acts.{Moved, standing_at}
use Rattle.dm_peer.specs.Settled.{IsSettled}
use Rattle.dm_history.specs.History.{Happened, done_at, declined_at, new_peer, Became, untold, done, declined}
use Rattle.dm_history.specs.Opened.{IsOpened, EachOpeningWasAsked}
use Rattle.dm_history.proofs.Turning.{TurnsAs, turns}
use Rattle.dm_history.proofs.Lasting.{settled_next, stays_configured}
use Rattle.dm_history.proofs.Stories.{StepLaws, UnheardIfFree, StoryOf, later, IsTold}
use Rattle.dm_history.proofs.Ending.{unheard_next, unheard_declined}
use Rattle.dm_history.proofs.OneTurn.{goes_on}

by_turn : StepLaws → (p : Peer) (e : PeerEvent) (actions : List Action) (next : Peer) (past : List Happened) →
    IsTold p past → IsSettled next → TurnsAs p e (Moved actions next) → IsTold next (done_at e actions ∷ past)
by_turn laws p e actions next past before settled (inr d) =
    subst (λ (q : Peer). IsTold q (done_at e actions ∷ past)) (sym d.same)
    (record {
      settled = before.settled;
      unheard = subst (λ (q : Peer). UnheardIfFree q (done_at e actions ∷ past)) d.same
          (unheard_next laws.closed laws.commands p before.settled e actions next past (inr d) before.unheard);
      story = λ c. later p.config p.standing c (done_at e actions) past (hold_of p.standing.core c) (before.story c);
    })
by_turn laws p e actions next past before settled (inl t) =
    let there = standing_at p (standing_after p.standing t.heard (request_in t.commands) t.core) in
    let kept : IsSettled there = subst IsSettled t.stands settled in
    let told : IsTold there (done_at e (actions_of p e t.heard t.commands) ∷ past) = record {
      settled = kept;
      unheard = subst (λ (q : Peer). UnheardIfFree q (done_at e (actions_of p e t.heard t.commands) ∷ past)) t.stands
          (subst (λ (a : List Action). UnheardIfFree next (done_at e a ∷ past)) t.acted
          (unheard_next laws.closed laws.commands p before.settled e actions next past (inl t) before.unheard));
      story = goes_on laws p e t.heard t.commands t.core past before kept t.moves t.read;
    } in
    subst (λ (q : Peer). IsTold q (done_at e actions ∷ past)) (sym t.stands)
    (subst (λ (a : List Action). IsTold there (done_at e a ∷ past)) (sym t.acted) told)

pub stays_told : StepLaws → (config : Config) (next : ℕ) (past : List Happened) (p : Peer) →
    Became (new_peer config next) past p → IsTold p past
stays_told laws config next past p untold =
    record { settled = laws.fresh config next; unheard = λ c free. tt; story = λ c. tt }
stays_told laws config next past p (done older q e actions after lived is) =
    let before = stays_told laws config next older q lived in
    by_turn laws q e actions after older before (settled_next laws.kept q e actions after is before.settled)
    (turns q e actions after is)
stays_told laws config next past p (declined older q e lived) =
    let before = stays_told laws config next older q lived in
    record {
      settled = before.settled;
      unheard = unheard_declined q e older before.unheard;
      story = λ c. later q.config q.standing c (declined_at e) older (hold_of q.standing.core c) (before.story c);
    }

shown : (config : Config) (standing : Standing) (c : Conn) (past : List Happened) (h : Hold) →
    StoryOf config standing c past h → IsOpened config c past h
shown config standing c past OpenAsR s = s
shown config standing c past OpenAsI s = s
shown config standing c past _ s = tt

pub opened : StepLaws → EachOpeningWasAsked
opened laws config next past p c lived =
    let hold = hold_of p.standing.core c in
    subst (λ (k : Config). IsOpened k c past hold) (stays_configured config next past p lived)
    (shown p.config p.standing c past hold ((stays_told laws config next past p lived).story c))
