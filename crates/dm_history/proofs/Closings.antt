-- What has ended isn't held, and nothing is sent on it.
use Rattle.std.proofs.Common.{◌≡◌, inl, inr, ℕ, true, false, not, ◌&&◌, Option, None, Some, List, [], ◌∷◌, ◌++◌, refl, sym, subst, ap, ◌∙◌}
use Rattle.std.specs.Prelude.{IsTrue}
use Rattle.std.proofs.lemmas.Bool.{and_parts, and_from}
use Rattle.dm_machine.specs.declared.connection.Conn.{Conn}
use Rattle.dm_machine.specs.declared.outputs.Command.{Command}
use Rattle.dm_machine.specs.Connection.{NotHeld, hold_of, concern_of, ConnOrder, Closes, order_to, with_order, orders_to, AtConnection}
use Rattle.dm_machine.specs.Ordered.{EachCommandIsAnOrder}
use Rattle.dm_machine.specs.Changes.{EachConnectionChangesAsAllowed}
use Rattle.dm_machine.specs.Openings.{is_hold, has_order, names_it, is_left_unclosed, ends_in_close, ClosesWhatItGivesUp, LeavesOthersAlone, EndsAtClose}
use Rattle.dm_peer.specs.declared.actions.Action.{Action}
use Rattle.dm_peer.specs.declared.actions.Action.TheVariants.{Send, Close}
use Rattle.dm_peer.specs.declared.config.Config.{Config}
use Rattle.dm_peer.specs.declared.peer.Peer.{Peer}
use Rattle.dm_peer.specs.Events.{PeerEvent}
use Rattle.dm_peer.specs.Configs.{wins}
use Rattle.dm_peer.specs.Said.{Heard}
use Rattle.dm_peer.specs.Sent.{action_of}
use Rattle.dm_peer.specs.Acts.{Moved, input_of}
use Rattle.dm_peer.specs.Settled.{IsSettled, FreshIsSettled, EachEventKeepsSettled}
use Rattle.dm_history.specs.History.{Happened, done_at, new_peer, Became, untold, done, declined, StandsAmong}
use Rattle.dm_history.specs.Naming.{names_conn, IsClosing, EndedSince}
use Rattle.dm_history.specs.Over.{EachEndIsLast, NothingFollowsClose}
use Rattle.dm_history.proofs.Among.{none_among, sourced}
use Rattle.dm_history.proofs.Concerns.{names_as}
use Rattle.dm_history.proofs.Turning.{IsTurn, TurnsAs, turns}
use Rattle.dm_history.proofs.Holding.{is_free}
use Rattle.dm_history.proofs.Lasting.{stays_settled}
use Rattle.dm_history.proofs.Unmade.{ended_free, stays_unmade}
use Rattle.dm_history.proofs.Sending.{sends_order, closes_order}

-- the laws of one step that it rests on
pub record CloseLaws : Type 0 where
  pub changes : EachConnectionChangesAsAllowed
  pub fresh : FreshIsSettled
  pub kept : EachEventKeepsSettled
  pub closed : ClosesWhatItGivesUp
  pub alone : LeavesOthersAlone
  pub last : EndsAtClose
  pub orders : EachCommandIsAnOrder

-- a connection that isn't held nor named is left alone
alone_at : LeavesOthersAlone → (p : Peer) → IsSettled p → (e : PeerEvent) (actions : List Action) (next : Peer) →
    (t : IsTurn p e actions next) → (c : Conn) → hold_of p.standing.core c ≡ NotHeld → names_conn e c ≡ false →
    (hold_of t.core c ≡ NotHeld) × (orders_to c t.commands ≡ [])
alone_at alone p was e actions next t c free other =
    let n = p.standing.core in
    let i = input_of e t.heard in
    subst (AtConnection (λ k before after orders.
    IsTrue (is_hold NotHeld before && not (names_it k)) → (after ≡ NotHeld) × (orders ≡ [])) n i c) t.moves
    (alone n i (wins p.config) c was.shaped)
    (and_from (is_hold NotHeld (hold_of n c)) (not (names_it (concern_of i c))) (ap (is_hold NotHeld) free)
    (ap not (names_as e t.heard c ∙ other)))

-- one that is closed isn't held
closed_at : ClosesWhatItGivesUp → EachCommandIsAnOrder → (p : Peer) → IsSettled p → (e : PeerEvent)
    (actions : List Action) (next : Peer) →
    (t : IsTurn p e actions next) → (c : Conn) → StandsAmong actions (Close c) → hold_of t.core c ≡ NotHeld
closed_at closed orders p was e actions next t c (earlier, later, stands) =
    let n = p.standing.core in
    let i = input_of e t.heard in
    let a = sourced (action_of p e t.heard) t.commands (Close c) earlier later (sym t.acted ∙ stands) in
    let has = orders Closes c t.commands a.command (a.before, a.behind, a.stands)
    (closes_order p e t.heard a.command c a.gives) in
    let law : has_order Closes (orders_to c t.commands)
    ≡ (is_hold NotHeld (hold_of t.core c) && not (is_left_unclosed (concern_of i c) (hold_of n c))) =
    subst (AtConnection (λ k before after orders.
    has_order Closes orders ≡ (is_hold NotHeld after && not (is_left_unclosed k before))) n i c) t.moves
    (closed n i (wins p.config) c was.shaped) in
    is_free (hold_of t.core c)
    (and_parts (is_hold NotHeld (hold_of t.core c)) (not (is_left_unclosed (concern_of i c) (hold_of n c)))
    (sym law ∙ has)).0

sent_none : EachCommandIsAnOrder → (p : Peer) (e : PeerEvent) (h : Option Heard) (l : List Command) (c : Conn)
    (s : List ℕ)
    (a : Command) → StandsAmong l a → action_of p e h a ≡ Send c s → orders_to c l ≡ [] → ⊥
sent_none orders p e h l c s a there is none =
    let o = sends_order p e h a c s is in
    cc (sym (ap (has_order o.0) none) ∙ orders o.0 c l a there o.1)

silent_at : LeavesOthersAlone → EachCommandIsAnOrder → (p : Peer) → IsSettled p → (c : Conn) →
    hold_of p.standing.core c ≡ NotHeld →
    (e : PeerEvent) (actions : List Action) (next : Peer) (s : List ℕ) → names_conn e c ≡ false →
    TurnsAs p e (Moved actions next) → StandsAmong actions (Send c s) → ⊥
silent_at alone orders p was c free e actions next s other (inr d) there =
    none_among (Send c s) (subst (λ (l : List Action). StandsAmong l (Send c s)) d.none there)
silent_at alone orders p was c free e actions next s other (inl t) (earlier, later, stands) =
    let a = sourced (action_of p e t.heard) t.commands (Send c s) earlier later (sym t.acted ∙ stands) in
    sent_none orders p e t.heard t.commands c s a.command (a.before, a.behind, a.stands) a.gives
    (alone_at alone p was e actions next t c free other).1

closed_free : ClosesWhatItGivesUp → EachCommandIsAnOrder → (p : Peer) → IsSettled p → (e : PeerEvent)
    (actions : List Action) (next : Peer)
    (c : Conn) → TurnsAs p e (Moved actions next) → StandsAmong actions (Close c) →
    hold_of next.standing.core c ≡ NotHeld
closed_free closed orders p was e actions next c (inr d) there =
    absurd (none_among (Close c) (subst (λ (l : List Action). StandsAmong l (Close c)) d.none there))
closed_free closed orders p was e actions next c (inl t) there =
    ap (λ q. hold_of q.standing.core c) t.stands ∙ closed_at closed orders p was e actions next t c there

unnamed_free : LeavesOthersAlone → (p : Peer) → IsSettled p → (e : PeerEvent) (actions : List Action) (next : Peer)
    (c : Conn) → TurnsAs p e (Moved actions next) → hold_of p.standing.core c ≡ NotHeld → names_conn e c ≡ false →
    hold_of next.standing.core c ≡ NotHeld
unnamed_free alone p was e actions next c (inr d) free other = ap (λ q. hold_of q.standing.core c) d.same ∙ free
unnamed_free alone p was e actions next c (inl t) free other =
    ap (λ q. hold_of q.standing.core c) t.stands ∙ (alone_at alone p was e actions next t c free other).0

closing_now : (e : PeerEvent) (actions : List Action) (c : Conn) → IsClosing c (done_at e actions) →
    StandsAmong actions (Close c)
closing_now e actions c x =
    let same : x.actions ≡ actions = cc x.did in
    subst (λ (l : List Action). StandsAmong l (Close c)) same x.closes

none_did : {l : List Action} → None ≡ Some l → ⊥
none_did e = cc e

stays_free : CloseLaws → (config : Config) (next : ℕ) (past : List Happened) (p : Peer) (c : Conn) →
    Became (new_peer config next) past p → EndedSince c past → hold_of p.standing.core c ≡ NotHeld
stays_free laws config next past p c untold was = absurd was
stays_free laws config next past p c (done older q e actions after lived is) was =
    let settled = stays_settled laws.fresh laws.kept config next older q lived in
    let turn = turns q e actions after is in
    elim was [
      | inl x ↦ closed_free laws.closed laws.orders q settled e actions p c turn (closing_now e actions c x)
      | inr (inl (x, first)) ↦
          ended_free laws.changes q settled e actions p c older x.ends first
          (stays_unmade laws.fresh laws.kept laws.changes config next older q c lived) turn
      | inr (inr (other, was)) ↦
          unnamed_free laws.alone q settled e actions p c turn (stays_free laws config next older q c lived was) other
    ]
stays_free laws config next past p c (declined older q e lived) (inl x) = absurd (none_did x.did)
stays_free laws config next past p c (declined older q e lived) (inr (inl (x, first))) = absurd (none_did x.did)
stays_free laws config next past p c (declined older q e lived) (inr (inr (other, was))) =
    stays_free laws config next older q c lived was

pub ended_is_last : CloseLaws → EachEndIsLast
ended_is_last laws config next past p c lived was =
    let free = stays_free laws config next past p c lived was in
    let settled = stays_settled laws.fresh laws.kept config next past p lived in
    record {
      free = free;
      silent = λ e actions after s other is there.
          silent_at laws.alone laws.orders p settled c free e actions after s other (turns p e actions after is) there;
    }

-- what follows a Close within a step
ends_further : (o : Option ConnOrder) (rest : List ConnOrder) → ends_in_close (with_order o rest) ≡ true →
    ends_in_close rest ≡ true
ends_further None rest e = e
ends_further (Some o) [] e = refl
ends_further (Some Closes) (x ∷ rest) e = cc
ends_further (Some _) (x ∷ rest) e = e

none_behind : (rest : List ConnOrder) → ends_in_close (Closes ∷ rest) ≡ true → rest ≡ []
none_behind [] e = refl
none_behind (x ∷ rest) e = cc

ends_behind : (c : Conn) (a : Command) (before behind : List Command) → order_to c a ≡ Some Closes →
    ends_in_close (orders_to c (before ++ a ∷ behind)) ≡ true → orders_to c behind ≡ []
ends_behind c a [] behind is e =
    none_behind (orders_to c behind) (sym (ap (λ o. ends_in_close (with_order o (orders_to c behind))) is) ∙ e)
ends_behind c a (x ∷ before) behind is e =
    ends_behind c a before behind is (ends_further (order_to c x) (orders_to c (before ++ a ∷ behind)) e)

behind_none : EndsAtClose → EachCommandIsAnOrder → (p : Peer) → IsSettled p → (e : PeerEvent) (after : Peer)
    (c : Conn) (s : List ℕ)
    (earlier later : List Action) → TurnsAs p e (Moved (earlier ++ Close c ∷ later) after) →
    StandsAmong later (Send c s) → ⊥
behind_none last orders p was e after c s earlier later (inr d) there =
    none_among (Close c) (earlier, later, sym d.none)
behind_none last orders p was e after c s earlier later (inl t) (first, more, stands) =
    let n = p.standing.core in
    let i = input_of e t.heard in
    let f = action_of p e t.heard in
    let a = sourced f t.commands (Close c) earlier later (sym t.acted) in
    let b = sourced f a.behind (Send c s) first more (a.rest ∙ stands) in
    let law : ends_in_close (orders_to c t.commands) ≡ true =
    subst (AtConnection (λ k before then orders. ends_in_close orders ≡ true) n i c) t.moves
    (last n i (wins p.config) c was.shaped) in
    sent_none orders p e t.heard a.behind c s b.command (b.before, b.behind, b.stands) b.gives
    (ends_behind c a.command a.before a.behind (closes_order p e t.heard a.command c a.gives)
    (sym (ap (λ l. ends_in_close (orders_to c l)) a.stands) ∙ law))

pub nothing_follows : CloseLaws → NothingFollowsClose
nothing_follows laws config next past p e after c s earlier later lived is there =
    let settled = stays_settled laws.fresh laws.kept config next past p lived in
    behind_none laws.last laws.orders p settled e after c s earlier later
    (turns p e (earlier ++ Close c ∷ later) after is) there
