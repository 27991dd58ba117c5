-- An open connection through a history: how long it stays open, and the Ticks that the watchdog counts on it.
use Rattle.std.proofs.Common.{◌≡◌, inl, inr, ℕ, Bool, true, false, not, ◌&&◌, ◌||◌, ◌==◌, Option, None, Some, List, if◌then◌else◌, IsTrue, refl, sym, subst, ap, ◌∙◌}
use Rattle.std.proofs.lemmas.Bool.{and_parts, cases_Bool, eqb-true}
use Rattle.dm_machine.specs.declared.connection.Conn.{Conn}
use Rattle.dm_machine.specs.Node.{Node}
use Rattle.dm_machine.specs.Forms.{EachShapeIsAForm}
use Rattle.dm_machine.specs.Reading.{place_in, conn_named}
use Rattle.dm_machine.specs.Moves as moves
use Rattle.dm_machine.specs.Moves.{NodeOutcome, is_open}
use Rattle.dm_machine.specs.Connection.{hold_of, concern_of}
use Rattle.dm_machine.specs.Upward.{is_open_hold}
use Rattle.dm_machine.specs.EachStep.{StepTest, everywhere, passes_of, EachStepHolds}
use Rattle.dm_peer.specs.declared.actions.Action.{Action}
use Rattle.dm_peer.specs.declared.peer.Peer.{Peer}
use Rattle.dm_peer.specs.Events.{PeerEvent}
use Rattle.dm_peer.specs.Configs.{wins}
use Rattle.dm_peer.specs.Acts.{Moved, acts, input_of}
use Rattle.dm_peer.specs.Cases.{EachEventIsACase}
use Rattle.dm_peer.specs.Settled.{IsSettled, EachEventKeepsSettled}
use Rattle.dm_history.specs.History.{untold, done, declined}
use Rattle.dm_history.specs.Carrying.{StandsOpen}
use Rattle.dm_history.specs.Replaying.{peer_after}
use Rattle.dm_history.specs.Staying.{ends_open, EachOpenStays, never_ends, EachOpenLasts, ticks_at, ticks_since, EachCountIsOfTicks}
use Rattle.dm_history.proofs.SameConn.{same_conn}
use Rattle.dm_history.proofs.Lasting.{settled_next}
use Rattle.dm_history.proofs.Turning.{IsTurn, TurnsAs, turns}
use Rattle.dm_history.proofs.Replays.{settled_through, peer_is}
use Rattle.dm_history.proofs.OpenNodes.{open_node, kept_count, LeftAs, OpenForm, state_form, state_open, opens_one, opens_itself, step_leaves}
use Rattle.dm_history.proofs.Stays.{counted_open, count_next}

-- it is open until an event ends it
not_ended : (ends : Bool) → not (true && ends) ≡ true → not ends ≡ true
not_ended ends e = e

pub lasts : EachOpenStays → EachEventKeepsSettled → EachOpenLasts
lasts law kept first past p c was untold opened none = opened
lasts law kept first past p c was (done older q e actions after lived is) opened none =
    let both = and_parts (never_ends first c older) (not (true && ends_open (peer_after first older) c e)) none in
    let before = lasts law kept first older q c was lived opened both.0 in
    law q c e actions p (settled_through kept first older q was lived) before is
    ∙ (ap (λ r. not (ends_open r c e)) (peer_is first older q lived)
    ∙ not_ended (ends_open (peer_after first older) c e) both.1)
lasts law kept first past p c was (declined older q e lived) opened none =
    lasts law kept first older q c was lived opened (and_parts (never_ends first c older) true none).0

-- an open state is entered with the count 0
abbrev begins_at : NodeOutcome → Bool
begins_at (moves.NodeMoved commands next) = not (is_open next.state) || (next.count == 0)
begins_at (moves.NodeRefused r) = true

abbrev enters_at_zero : StepTest
enters_at_zero n at i o = is_open n.state || begins_at o

entered : (i r c : Conn) → IsTrue (passes_of enters_at_zero i r c)
unfolding everywhere
entered i r c = refl

zero_at : (was is : Bool) (k : ℕ) → (was || (not is || (k == 0))) ≡ true → was ≡ false → is ≡ true → k ≡ 0
zero_at true is k e shut opened = cc shut
zero_at false true k e shut opened = eqb-true k 0 e
zero_at false false k e shut opened = cc opened

-- what is open on another connection stays there, or isn't open any more

left_elsewhere : (n : Node) (x c : Conn) (f : OpenForm n x) (m : Option ℕ) (next : Node) → LeftAs f.role x m next →
    is_open_hold (hold_of next c) ≡ true → is_open next.state ≡ true → is_open_hold (hold_of n c) ≡ true
left_elsewhere n x c f (Some k) next is opened state =
    let same = same_conn x c
    (sym (opens_one f.role x k c) ∙ (ap (λ y. is_open_hold (hold_of y c)) (sym is) ∙ opened)) in
    ap (λ y. is_open_hold (hold_of y c)) f.is
    ∙ (ap (λ d. is_open_hold (hold_of (open_node f.role x f.count) d)) (sym same)
    ∙ opens_itself f.role x f.count)
left_elsewhere n x c f None next is opened state = absurd (cc (sym state ∙ is))

shut_before : EachShapeIsAForm → (p : Peer) → IsSettled p → (e : PeerEvent) (actions : List Action) (next : Peer) →
    IsSettled next → (t : IsTurn p e actions next) → (c : Conn) → is_open_hold (hold_of p.standing.core c) ≡ false →
    is_open_hold (hold_of t.core c) ≡ true → is_open t.core.state ≡ true → is_open p.standing.core.state ≡ false
shut_before law p was e actions next later t c free opened state =
    let n = p.standing.core in
    elim (cases_Bool (is_open n.state)) [
      | inl before ↦
          let x = state_form n (law n was.shaped) before in
          let left = step_leaves n (law n was.shaped) x.0 x.1 (input_of e t.heard) (wins p.config) t.commands t.core
          t.moves in
          absurd (cc (sym (left_elsewhere n x.0 c x.1 (kept_count n.count (concern_of (input_of e t.heard) x.0)) t.core
          left opened state) ∙ free))
      | inr shut ↦ shut
    ]

opened_now : EachShapeIsAForm → EachStepHolds → (p : Peer) → IsSettled p → (e : PeerEvent) (actions : List Action)
    (next : Peer) → IsSettled next → TurnsAs p e (Moved actions next) → (c : Conn) →
    is_open_hold (hold_of p.standing.core c) ≡ false → StandsOpen next c → next.standing.core.count ≡ 0
opened_now law few p was e actions next later (inr d) c free opened =
    absurd (cc (sym (ap (λ q. is_open_hold (hold_of q.standing.core c)) (sym d.same) ∙ opened) ∙ free))
opened_now law few p was e actions next later (inl t) c free opened =
    let n = p.standing.core in
    let i = input_of e t.heard in
    let here : t.core ≡ next.standing.core = sym (ap (λ q. q.standing.core) t.stands) in
    let now = ap (λ m. is_open_hold (hold_of m c)) here ∙ opened in
    let state = ap (λ m. is_open m.state) here
    ∙ state_open next.standing.core (law next.standing.core later.shaped) c opened in
    let shut = shut_before law p was e actions next later t c free now state in
    let test : enters_at_zero n (place_in n (conn_named i)) i (moves.NodeMoved t.commands t.core) ≡ true =
    subst (λ (o : NodeOutcome). enters_at_zero n (place_in n (conn_named i)) i o ≡ true) t.moves
    (few enters_at_zero entered n i (wins p.config) was.shaped) in
    ap (λ m. m.count) (sym here) ∙ zero_at (is_open n.state) (is_open t.core.state) t.core.count test shut state

-- where it was open before
count_of : (k j : ℕ) (ends : Bool) → Some k ≡ (if ends then None else Some j) → k ≡ j
count_of k j true e = cc e
count_of k j false e = cc e

stayed_count : EachShapeIsAForm → EachEventIsACase → EachEventKeepsSettled → (p : Peer) → IsSettled p → (c : Conn) →
    (e : PeerEvent) (actions : List Action) (next : Peer) → acts p e ≡ Moved actions next → StandsOpen p c →
    StandsOpen next c → next.standing.core.count ≡ ticks_at p c e p.standing.core.count
stayed_count law cases kept p was c e actions next is before opened =
    count_of next.standing.core.count (ticks_at p c e p.standing.core.count) (ends_open p c e)
    (sym (counted_open next.standing.core c opened)
    ∙ count_next law cases p was c before e actions next (settled_next kept p e actions next is was) is)

-- the number of Ticks, as it is told by the peer itself
told_count : (p : Peer) (c : Conn) (e : PeerEvent) (n k : ℕ) (b : Bool) → is_open_hold (hold_of p.standing.core c) ≡ b →
    (b ≡ true → k ≡ ticks_at p c e n) → (b ≡ false → k ≡ 0) →
    k ≡ (if is_open_hold (hold_of p.standing.core c) then ticks_at p c e n else 0)
told_count p c e n k true is stayed begun =
    stayed refl ∙ sym (ap (λ b. if b then ticks_at p c e n else 0) is)
told_count p c e n k false is stayed begun =
    begun refl ∙ sym (ap (λ b. if b then ticks_at p c e n else 0) is)

pub counts : EachShapeIsAForm → EachEventIsACase → EachEventKeepsSettled → EachStepHolds → EachCountIsOfTicks
counts law cases kept few first past p c was untold opened = refl
counts law cases kept few first past p c was (done older q e actions after lived is) opened =
    let settled = settled_through kept first older q was lived in
    let later = settled_next kept q e actions after is settled in
    let n = ticks_since first c older in
    let now = told_count q c e n p.standing.core.count (is_open_hold (hold_of q.standing.core c)) refl
    (λ before.
    stayed_count law cases kept q settled c e actions after is before opened
    ∙ ap (λ k. ticks_at q c e k) (counts law cases kept few first older q c was lived before))
    (λ free. opened_now law few q settled e actions after later (turns q e actions after is) c free opened) in
    now
    ∙ ap (λ r. if is_open_hold (hold_of r.standing.core c) then ticks_at r c e n else 0) (peer_is first older q lived)
counts law cases kept few first past p c was (declined older q e lived) opened =
    counts law cases kept few first older q c was lived opened
