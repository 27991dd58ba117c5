-- What a peer closes: a connection that it held, or one on which octets came.
use Rattle.std.proofs.Common.{◌≡◌, inl, inr, ℕ, Bool, true, false, true≢false, not, ◌&&◌, ◌||◌, ◌==◌, ◌⊎◌, IsTrue, Option, List, [], ◌∷◌, map, refl, sym, ap, subst, ◌∙◌}
use Rattle.std.specs.Prelude.{⊤}
use Rattle.std.specs.List.{list_any}
use Rattle.std.proofs.lemmas.Bool.{and_parts, eqb-true}
use Rattle.dm_machine.specs.declared.connection.Conn.{Conn}
use Rattle.dm_machine.specs.declared.outputs.Command.{Command}
use Rattle.dm_machine.specs.declared.outputs.Command.TheVariants as command
use Rattle.dm_machine.specs.Connection.{Hold, NotHeld, hold_of, Concern, StartsIt, AcksIt, NacksIt, EndsIt, HeardOnIt, if_named, concern_of, ConnOrder, Connects, SendsCer, SendsCea, SendsRefusal, SendsDwr, SendsDwa, SendsDpr, SendsDpa, SendsSubmit, Closes, if_ordered, with_order, orders_to, AtConnection}
use Rattle.dm_machine.specs.Deeds.{Deed, ClosesOn, deed_of_command}
use Rattle.dm_machine.specs.Node.{is_shaped}
use Rattle.dm_machine.specs.Openings.{is_hold, is_order, has_order, is_left_unclosed, ClosesWhatItGivesUp}
use Rattle.dm_peer.specs.declared.actions.Action.{Action}
use Rattle.dm_peer.specs.declared.actions.Action.TheVariants as action
use Rattle.dm_peer.specs.declared.peer.Peer.{Peer}
use Rattle.dm_peer.specs.Acts.{Moved, acts, input_of}
use Rattle.dm_peer.specs.Configs.{wins}
use Rattle.dm_peer.specs.Events.{PeerEvent, Start, Ack, Nack, Arrived, Gone}
use Rattle.dm_peer.specs.Holding.{is_held, holds, closes_conn}
use Rattle.dm_peer.specs.Kept.{IsKept}
use Rattle.dm_peer.specs.Said.{Heard}
use Rattle.dm_peer.specs.Steps.{EachEventIsOneStep, Follows, IsStep, deed_of}
use Rattle.dm_slots.specs.Intakes.{actions_close}

-- octets came on the connection
abbrev pub CameOn : PeerEvent → Conn → Type 0
CameOn e c = (s : List ℕ) × (e ≡ Arrived c s)

abbrev closes_it : Conn → Deed → Bool
closes_it c (ClosesOn d) = d.0 == c.0
closes_it c _ = false

by_deeds : (c : Conn) (actions : List Action) → actions_close actions c.0 ≡ list_any (closes_it c) (map deed_of actions)
by_deeds c [] = refl
by_deeds c (action.Close d ∷ actions) = ap (λ b. (d.0 == c.0) || b) (by_deeds c actions)
by_deeds c (a ∷ actions) = by_deeds c actions

pub closes_as : (c : Conn) (actions : List Action) → actions_close actions c.0 ≡ list_any (closes_conn c) actions
closes_as c [] = refl
closes_as c (action.Close d ∷ actions) = ap (λ b. (d.0 == c.0) || b) (closes_as c actions)
closes_as c (a ∷ actions) = closes_as c actions

other_order : (b : Bool) (o : ConnOrder) (rest : List ConnOrder) → is_order Closes o ≡ false →
    has_order Closes (with_order (if_ordered b o) rest) ≡ has_order Closes rest
other_order true o rest other = ap (λ x. x || has_order Closes rest) other
other_order false o rest other = refl

close_order : (b : Bool) (rest : List ConnOrder) →
    has_order Closes (with_order (if_ordered b Closes) rest) ≡ (b || has_order Closes rest)
close_order true rest = refl
close_order false rest = refl

by_orders : (c : Conn) (l : List Command) →
    list_any (closes_it c) (map deed_of_command l) ≡ has_order Closes (orders_to c l)
by_orders c [] = refl
by_orders c (command.Connect d ∷ l) = by_orders c l ∙ sym (other_order (d.0 == c.0) Connects (orders_to c l) refl)
by_orders c (command.SendCer d ∷ l) = by_orders c l ∙ sym (other_order (d.0 == c.0) SendsCer (orders_to c l) refl)
by_orders c (command.SendCea d ∷ l) = by_orders c l ∙ sym (other_order (d.0 == c.0) SendsCea (orders_to c l) refl)
by_orders c (command.SendRefusal d ∷ l) =
    by_orders c l ∙ sym (other_order (d.0 == c.0) SendsRefusal (orders_to c l) refl)
by_orders c (command.SendDwr d ∷ l) = by_orders c l ∙ sym (other_order (d.0 == c.0) SendsDwr (orders_to c l) refl)
by_orders c (command.SendDwa d ∷ l) = by_orders c l ∙ sym (other_order (d.0 == c.0) SendsDwa (orders_to c l) refl)
by_orders c (command.SendDpr d ∷ l) = by_orders c l ∙ sym (other_order (d.0 == c.0) SendsDpr (orders_to c l) refl)
by_orders c (command.SendDpa d ∷ l) = by_orders c l ∙ sym (other_order (d.0 == c.0) SendsDpa (orders_to c l) refl)
by_orders c (command.SendSubmit d ∷ l) =
    by_orders c l ∙ sym (other_order (d.0 == c.0) SendsSubmit (orders_to c l) refl)
by_orders c (command.Close d ∷ l) =
    ap (λ b. (d.0 == c.0) || b) (by_orders c l) ∙ sym (close_order (d.0 == c.0) (orders_to c l))
by_orders c (command.Up ∷ l) = by_orders c l

-- how an event concerns a connection that isn't held and yet is closed
abbrev pub IsHeardOn : Concern → Type 0
IsHeardOn (HeardOnIt w) = ⊤
IsHeardOn _ = ⊥

heard_or_held : (k : Concern) (h : Hold) → not (is_left_unclosed k h) ≡ true → (is_held h ≡ true) ⊎ IsHeardOn k
heard_or_held (HeardOnIt w) h e = inr tt
heard_or_held k NotHeld e = cc
heard_or_held k h e = inl refl

not_heard : (b : Bool) (k : Concern) → (IsHeardOn k → ⊥) → IsHeardOn (if_named b k) → ⊥
not_heard true k un h = un h
not_heard false k un h = h

same_conn : (d c : Conn) (s : List ℕ) (k : Concern) (b : Bool) → (d.0 == c.0) ≡ b → IsHeardOn (if_named b k) →
    CameOn (Arrived d s) c
same_conn d c s k true e h = (s, ap (λ n. Arrived (record { 0 = n }) s) (eqb-true d.0 c.0 e))
same_conn d c s k false e h = absurd h

came_on : (e : PeerEvent) (h : Option Heard) (c : Conn) → IsHeardOn (concern_of (input_of e h) c) → CameOn e c
came_on (Start d) h c is = absurd (not_heard (d.0 == c.0) StartsIt (λ x. x) is)
came_on (Ack d) h c is = absurd (not_heard (d.0 == c.0) AcksIt (λ x. x) is)
came_on (Nack d) h c is = absurd (not_heard (d.0 == c.0) NacksIt (λ x. x) is)
came_on (Gone d) h c is = absurd (not_heard (d.0 == c.0) EndsIt (λ x. x) is)
came_on (Arrived d s) h c is = same_conn d c s _ (d.0 == c.0) refl is
came_on e h c is = absurd is

not_held : (h : Hold) → is_hold NotHeld h ≡ true → is_held h ≡ false
not_held NotHeld e = refl
not_held h e = cc

-- what a peer closes it held, or octets came on it, and it doesn't hold it any more
abbrev pub ClosesOwn : Peer → PeerEvent → Conn → Peer → Type 0
ClosesOwn p e c q = ((holds c p ≡ true) ⊎ CameOn e c) × (holds c q ≡ false)

closed_at : ClosesWhatItGivesUp → (p q : Peer) (e : PeerEvent) (actions : List Action) (c : Conn) →
    IsTrue (is_shaped p.standing.core) → IsStep p e actions q → actions_close actions c.0 ≡ true → ClosesOwn p e c q
closed_at closed p q e actions c shaped s closing =
    let n = p.standing.core in
    let i = input_of e s.heard in
    let has : has_order Closes (orders_to c s.commands) ≡ true =
    sym (by_orders c s.commands) ∙ ap (list_any (closes_it c)) (sym s.deeds) ∙ sym (by_deeds c actions) ∙ closing in
    let law : has_order Closes (orders_to c s.commands)
    ≡ (is_hold NotHeld (hold_of q.standing.core c) && not (is_left_unclosed (concern_of i c) (hold_of n c))) =
    subst (AtConnection (λ k before after orders.
    has_order Closes orders ≡ (is_hold NotHeld after && not (is_left_unclosed k before))) n i c) s.moves
    (closed n i (wins p.config) c shaped) in
    let both = and_parts (is_hold NotHeld (hold_of q.standing.core c))
    (not (is_left_unclosed (concern_of i c) (hold_of n c))) (sym law ∙ has) in (
      elim (heard_or_held (concern_of i c) (hold_of n c) both.1) [
        | inl held ↦ inl held
        | inr heard ↦ inr (came_on e s.heard c heard)
      ],
      not_held (hold_of q.standing.core c) both.0,
    )

-- so whatever else is known of a peer than that its state machine's node has its form
pub closes_shaped : EachEventIsOneStep → ClosesWhatItGivesUp → (p q : Peer) (e : PeerEvent) (actions : List Action)
    (c : Conn) → IsTrue (is_shaped p.standing.core) → acts p e ≡ Moved actions q → actions_close actions c.0 ≡ true →
    ClosesOwn p e c q
closes_shaped step closed p q e actions c shaped is closing =
    elim (subst (Follows p e) is (step p e)) [
      | inl s ↦ closed_at closed p q e actions c shaped s closing
      | inr d ↦ absurd (true≢false (sym closing ∙ ap (λ l. actions_close l c.0) d.silent))
    ]

-- what a peer closes it held, or octets came on it
abbrev pub ClosesItsOwn : Type 0
ClosesItsOwn =
    (p q : Peer) (e : PeerEvent) (actions : List Action) (c : Conn) → IsKept p → acts p e ≡ Moved actions q →
    actions_close actions c.0 ≡ true → (holds c p ≡ true) ⊎ CameOn e c

pub closes_its_own : EachEventIsOneStep → ClosesWhatItGivesUp → ClosesItsOwn
closes_its_own step closed p q e actions c kept is closing =
    (closes_shaped step closed p q e actions c kept.settled.shaped is closing).0
