-- On a connection that isn't held nothing came since it was closed or told ended.
use Rattle.std.proofs.Common.{◌≡◌, ◌⊎◌, inl, inr, ℕ, ◌==◌, true, false, not, ◌&&◌, Option, None, Some, List, ◌∷◌, refl, sym, subst, ap, ◌∙◌}
use Rattle.std.proofs.lemmas.Bool.{cases_Bool}
use Rattle.dm_machine.specs.declared.connection.Conn.{Conn}
use Rattle.dm_machine.specs.declared.outputs.Command.TheVariants as command
use Rattle.dm_machine.specs.Connection.{Hold, NotHeld, hold_of, Concern, NacksIt, EndsIt, HeardOnIt, if_named, concern_of, Closes, orders_to, AtConnection}
use Rattle.dm_machine.specs.Ordered.{EachOrderIsACommand}
use Rattle.dm_machine.specs.Openings.{is_hold, has_order, is_left_unclosed, ClosesWhatItGivesUp}
use Rattle.dm_peer.specs.declared.actions.Action.{Action}
use Rattle.dm_peer.specs.declared.actions.Action.TheVariants.{Close}
use Rattle.dm_peer.specs.declared.peer.Peer.{Peer}
use Rattle.dm_peer.specs.Events.{PeerEvent, Arrived}
use Rattle.dm_peer.specs.Configs.{wins}
use Rattle.dm_peer.specs.Said.{Heard, word_heard}
use Rattle.dm_peer.specs.Sent.{action_of}
use Rattle.dm_peer.specs.Acts.{Moved, input_of, is_made}
use Rattle.dm_peer.specs.Settled.{IsSettled}
use Rattle.dm_history.specs.History.{Happened, done_at, declined_at, StandsAmong}
use Rattle.dm_history.specs.Naming.{IsClosing, HasEnded}
use Rattle.dm_history.specs.Opened.{HasArrived}
use Rattle.dm_history.proofs.Among.{mapped}
use Rattle.dm_history.proofs.Concerns.{is_end, ends_as}
use Rattle.dm_history.proofs.SameConn.{same_conn, same_number, is_conn}
use Rattle.dm_history.proofs.Turning.{IsTurn, TurnsAs}
use Rattle.dm_history.proofs.Holding.{is_free}
use Rattle.dm_history.proofs.Stories.{UnheardIfFree}

-- what was held, and isn't closed, has ended
left_ends : (k : Concern) (h : Hold) → is_left_unclosed k h ≡ true → is_hold NotHeld h ≡ false → is_end k ≡ true
left_ends NacksIt h e held = refl
left_ends EndsIt h e held = refl
left_ends (HeardOnIt w) h e held = cc e
left_ends _ NotHeld e held = cc held
left_ends _ _ e held = cc e

given_up : ClosesWhatItGivesUp → EachOrderIsACommand → (p : Peer) → IsSettled p → (e : PeerEvent)
    (actions : List Action) (next : Peer) →
    (t : IsTurn p e actions next) → (c : Conn) → hold_of t.core c ≡ NotHeld →
    is_left_unclosed (concern_of (input_of e t.heard) c) (hold_of p.standing.core c) ≡ false →
    IsClosing c (done_at e actions)
given_up closed orders p was e actions next t c free unleft =
    let n = p.standing.core in
    let i = input_of e t.heard in
    let law : has_order Closes (orders_to c t.commands)
    ≡ (is_hold NotHeld (hold_of t.core c) && not (is_left_unclosed (concern_of i c) (hold_of n c))) =
    subst (AtConnection (λ k before after orders.
    has_order Closes orders ≡ (is_hold NotHeld after && not (is_left_unclosed k before))) n i c) t.moves
    (closed n i (wins p.config) c was.shaped) in
    let has = law ∙ (ap (λ h. is_hold NotHeld h && not (is_left_unclosed (concern_of i c) (hold_of n c))) free
    ∙ ap (λ b. is_hold NotHeld NotHeld && not b) unleft) in
    let there = mapped (action_of p e t.heard) t.commands (command.Close c) (orders Closes c t.commands has) in
    record {
      actions = actions;
      did = refl;
      closes = subst (λ (l : List Action). StandsAmong l (Close c)) (sym t.acted) there;
    }

ended_now : ClosesWhatItGivesUp → EachOrderIsACommand → (p : Peer) → IsSettled p → (e : PeerEvent)
    (actions : List Action) (next : Peer) →
    (t : IsTurn p e actions next) → (c : Conn) → hold_of t.core c ≡ NotHeld →
    is_hold NotHeld (hold_of p.standing.core c) ≡ false →
    IsClosing c (done_at e actions) ⊎ HasEnded c (done_at e actions)
ended_now closed orders p was e actions next t c free held =
    let k = concern_of (input_of e t.heard) c in
    let before = hold_of p.standing.core c in
    elim (cases_Bool (is_left_unclosed k before)) [
      | inl left ↦
          inr (record {
            actions = actions;
            did = refl;
            ends = sym (ends_as e t.heard c) ∙ left_ends k before left held;
          })
      | inr unleft ↦ inl (given_up closed orders p was e actions next t c free unleft)
    ]

arrives_on : (e : PeerEvent) (c : Conn) → ((s : List ℕ) × (e ≡ Arrived c s)) ⊎ ((s : List ℕ) → e ≡ Arrived c s → ⊥)
arrives_on (Arrived d s) c = elim (cases_Bool (d.0 == c.0)) [
  | inl same ↦ inl (s, ap (λ x. Arrived x s) (same_conn d c same))
  | inr other ↦ inr (λ t is. cc (sym (is_conn d c (cc is)) ∙ other))
]
arrives_on _ c = inr (λ t is. cc is)

heard_concern : (e : PeerEvent) (h : Option Heard) (c : Conn) (s : List ℕ) → e ≡ Arrived c s →
    concern_of (input_of e h) c ≡ HeardOnIt (word_heard h)
heard_concern e h c s is =
    ap (λ f. concern_of (input_of f h) c) is
    ∙ ap (λ b. if_named b (HeardOnIt (word_heard h))) (same_number c.0)

none_came : (e : PeerEvent) (actions : List Action) (c : Conn) → ((s : List ℕ) → e ≡ Arrived c s → ⊥) →
    HasArrived c (done_at e actions) → ⊥
none_came e actions c none x = none x.octets (ap (λ y. y.event) x.came)

not_made : (h : Hold) → is_made h ≡ true → h ≡ NotHeld → ⊥
not_made h made free = cc (sym (ap is_made free) ∙ made)

pub unheard_next : ClosesWhatItGivesUp → EachOrderIsACommand → (p : Peer) → IsSettled p → (e : PeerEvent)
    (actions : List Action)
    (next : Peer) (past : List Happened) → TurnsAs p e (Moved actions next) → UnheardIfFree p past →
    UnheardIfFree next (done_at e actions ∷ past)
unheard_next closed orders p was e actions next past (inl t) before c free =
    let now : hold_of t.core c ≡ NotHeld = ap (λ q. hold_of q.standing.core c) (sym t.stands) ∙ free in
    elim (cases_Bool (is_hold NotHeld (hold_of p.standing.core c))) [
      | inl unheld ↦ elim (arrives_on e c) [
        | inl (s, is) ↦
            inl (inl (given_up closed orders p was e actions next t c now
            (ap (λ k. is_left_unclosed k (hold_of p.standing.core c)) (heard_concern e t.heard c s is))))
        | inr none ↦ inr (none_came e actions c none, before c (is_free (hold_of p.standing.core c) unheld))
      ]
      | inr held ↦ inl (ended_now closed orders p was e actions next t c now held)
    ]
unheard_next closed orders p was e actions next past (inr d) before c free =
    let now : hold_of p.standing.core c ≡ NotHeld = ap (λ q. hold_of q.standing.core c) (sym d.same) ∙ free in
    elim (arrives_on e c) [
      | inl (s, is) ↦
          let there : d.conn ≡ c = cc (d.came, is) in
          let made = ap (λ q. is_made (hold_of p.standing.core q)) (sym there) ∙ d.made in
          absurd (not_made (hold_of p.standing.core c) made now)
      | inr none ↦ inr (none_came e actions c none, before c now)
    ]

none_done : (l : List Action) → None ≡ Some l → ⊥
none_done l e = cc e

pub unheard_declined : (p : Peer) (e : PeerEvent) (past : List Happened) → UnheardIfFree p past →
    UnheardIfFree p (declined_at e ∷ past)
unheard_declined p e past before c free = inr (λ x. none_done x.actions (ap (λ y. y.did) x.came), before c free)
