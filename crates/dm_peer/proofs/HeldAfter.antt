-- What a peer holds behind an event.
use Rattle.std.proofs.Common.{◌≡◌, inl, inr, Bool, true, false, not, ◌&&◌, ◌||◌, ◌==◌, Option, List, [], ◌∷◌, map, refl, sym, ap, subst, ◌∙◌}
use Rattle.std.specs.Prelude.{IsTrue, Contains}
use Rattle.std.specs.List.{list_any, list_all}
use Rattle.std.proofs.lemmas.Bool.{and_parts, and_from, eq-eqb}
use Rattle.std.proofs.lemmas.List.Elements.{All-contains}
use Rattle.std.proofs.lemmas.List.Sums.{AllPass-from_list_all}
use Rattle.dm_machine.specs.declared.connection.Conn.{Conn}
use Rattle.dm_machine.specs.declared.outputs.Command.{Command}
use Rattle.dm_machine.specs.declared.outputs.Command.TheVariants as command
use Rattle.dm_machine.specs.Connection.{Hold, NotHeld, Pending, Made, OpenAsI, ClosingAsI, Taken, OpenAsR, ClosingAsR, hold_of, Concern, StartsIt, AcksIt, NacksIt, EndsIt, HeardOnIt, if_named, concern_of, ConnOrder, Connects, SendsCer, SendsCea, SendsRefusal, SendsDwr, SendsDwa, SendsDpr, SendsDpa, SendsSubmit, Closes, if_ordered, with_order, orders_to, AtConnection}
use Rattle.dm_machine.specs.Changes.{Change, changed_to, allowed, at_end, EachConnectionChangesAsAllowed}
use Rattle.dm_machine.specs.Deeds.{Deed, ClosesOn, deed_of_command}
use Rattle.dm_machine.specs.Openings.{is_hold, is_order, has_order, names_it, is_left_unclosed, ClosesWhatItGivesUp, LeavesOthersAlone}
use Rattle.dm_peer.specs.declared.actions.Action.{Action}
use Rattle.dm_peer.specs.declared.actions.Action.TheVariants as action
use Rattle.dm_peer.specs.declared.peer.Peer.{Peer}
use Rattle.dm_peer.specs.Acts.{input_of}
use Rattle.dm_peer.specs.Configs.{wins}
use Rattle.dm_peer.specs.Events.{PeerEvent, Start, Ack, Nack, Arrived, Gone}
use Rattle.dm_peer.specs.Holding.{is_held, holds, names_conn, closes_conn, OthersStayUnheld, ClosedIsUnheld, GoneIsUnheld}
use Rattle.dm_peer.specs.Kept.{IsKept}
use Rattle.dm_peer.specs.Said.{Heard, word_heard}
use Rattle.dm_peer.specs.Steps.{EachEventIsOneStep, Follows, IsStep, deed_of}

free_of : (h : Hold) → is_held h ≡ false → is_hold NotHeld h ≡ true
free_of NotHeld e = refl
free_of Pending e = cc
free_of Made e = cc
free_of OpenAsI e = cc
free_of ClosingAsI e = cc
free_of Taken e = cc
free_of OpenAsR e = cc
free_of ClosingAsR e = cc

unheld : (h : Hold) → is_hold NotHeld h ≡ true → is_held h ≡ false
unheld NotHeld e = refl
unheld Pending e = cc
unheld Made e = cc
unheld OpenAsI e = cc
unheld ClosingAsI e = cc
unheld Taken e = cc
unheld OpenAsR e = cc
unheld ClosingAsR e = cc

-- an event that names the connection is an input that does
named : (b : Bool) (k : Concern) → names_it k ≡ true → names_it (if_named b k) ≡ b
named true k e = e
named false k e = refl

names_as : (e : PeerEvent) (h : Option Heard) (c : Conn) → names_it (concern_of (input_of e h) c) ≡ names_conn e c
names_as (Start d) h c = named (d.0 == c.0) StartsIt refl
names_as (Ack d) h c = named (d.0 == c.0) AcksIt refl
names_as (Nack d) h c = named (d.0 == c.0) NacksIt refl
names_as (Gone d) h c = named (d.0 == c.0) EndsIt refl
names_as (Arrived d s) h c = named (d.0 == c.0) (HeardOnIt (word_heard h)) refl
names_as _ h c = refl

alone_at : LeavesOthersAlone → (p q : Peer) (e : PeerEvent) (actions : List Action) (c : Conn) → IsKept p →
    IsStep p e actions q → holds c p ≡ false → names_conn e c ≡ false → holds c q ≡ false
alone_at alone p q e actions c kept s free other =
    let n = p.standing.core in
    let i = input_of e s.heard in
    ap is_held (subst (AtConnection (λ k before after orders.
    IsTrue (is_hold NotHeld before && not (names_it k)) → (after ≡ NotHeld) × (orders ≡ [])) n i c) s.moves
    (alone n i (wins p.config) c kept.settled.shaped)
    (and_from (is_hold NotHeld (hold_of n c)) (not (names_it (concern_of i c))) (free_of (hold_of n c) free)
    (ap not (names_as e s.heard c ∙ other)))).0

pub others_stay_unheld : EachEventIsOneStep → LeavesOthersAlone → OthersStayUnheld
others_stay_unheld step alone p q e actions c kept is free other =
    elim (subst (Follows p e) is (step p e)) [
      | inl s ↦ alone_at alone p q e actions c kept s free other
      | inr d ↦ subst (λ x. holds c x ≡ false) (sym d.same) free
    ]

-- what closes a connection, among deeds
abbrev closes_it : Conn → Deed → Bool
closes_it c (ClosesOn d) = d.0 == c.0
closes_it c _ = false

by_deeds : (c : Conn) (actions : List Action) →
    list_any (closes_conn c) actions ≡ list_any (closes_it c) (map deed_of actions)
by_deeds c [] = refl
by_deeds c (action.Connect d ∷ actions) = by_deeds c actions
by_deeds c (action.Send d s ∷ actions) = by_deeds c actions
by_deeds c (action.Close d ∷ actions) = ap (λ b. (d.0 == c.0) || b) (by_deeds c actions)
by_deeds c (action.Up s ∷ actions) = by_deeds c actions

passed_over : (b : Bool) (o : ConnOrder) (rest : List ConnOrder) → is_order Closes o ≡ false →
    has_order Closes (with_order (if_ordered b o) rest) ≡ has_order Closes rest
passed_over true o rest other = ap (λ x. x || has_order Closes rest) other
passed_over false o rest other = refl

counted : (b : Bool) (rest : List ConnOrder) →
    has_order Closes (with_order (if_ordered b Closes) rest) ≡ (b || has_order Closes rest)
counted true rest = refl
counted false rest = refl

by_orders : (c : Conn) (l : List Command) →
    list_any (closes_it c) (map deed_of_command l) ≡ has_order Closes (orders_to c l)
by_orders c [] = refl
by_orders c (command.Connect d ∷ l) = by_orders c l ∙ sym (passed_over (d.0 == c.0) Connects (orders_to c l) refl)
by_orders c (command.SendCer d ∷ l) = by_orders c l ∙ sym (passed_over (d.0 == c.0) SendsCer (orders_to c l) refl)
by_orders c (command.SendCea d ∷ l) = by_orders c l ∙ sym (passed_over (d.0 == c.0) SendsCea (orders_to c l) refl)
by_orders c (command.SendRefusal d ∷ l) =
    by_orders c l ∙ sym (passed_over (d.0 == c.0) SendsRefusal (orders_to c l) refl)
by_orders c (command.SendDwr d ∷ l) = by_orders c l ∙ sym (passed_over (d.0 == c.0) SendsDwr (orders_to c l) refl)
by_orders c (command.SendDwa d ∷ l) = by_orders c l ∙ sym (passed_over (d.0 == c.0) SendsDwa (orders_to c l) refl)
by_orders c (command.SendDpr d ∷ l) = by_orders c l ∙ sym (passed_over (d.0 == c.0) SendsDpr (orders_to c l) refl)
by_orders c (command.SendDpa d ∷ l) = by_orders c l ∙ sym (passed_over (d.0 == c.0) SendsDpa (orders_to c l) refl)
by_orders c (command.SendSubmit d ∷ l) =
    by_orders c l ∙ sym (passed_over (d.0 == c.0) SendsSubmit (orders_to c l) refl)
by_orders c (command.Close d ∷ l) =
    ap (λ b. (d.0 == c.0) || b) (by_orders c l) ∙ sym (counted (d.0 == c.0) (orders_to c l))
by_orders c (command.Up ∷ l) = by_orders c l

closed_at : ClosesWhatItGivesUp → (p q : Peer) (e : PeerEvent) (actions : List Action) (c : Conn) → IsKept p →
    IsStep p e actions q → list_any (closes_conn c) actions ≡ true → holds c q ≡ false
closed_at closed p q e actions c kept s closing =
    let n = p.standing.core in
    let i = input_of e s.heard in
    let has : has_order Closes (orders_to c s.commands) ≡ true =
    sym (by_orders c s.commands) ∙ ap (list_any (closes_it c)) (sym s.deeds) ∙ sym (by_deeds c actions) ∙ closing in
    let law : has_order Closes (orders_to c s.commands)
    ≡ (is_hold NotHeld (hold_of q.standing.core c) && not (is_left_unclosed (concern_of i c) (hold_of n c))) =
    subst (AtConnection (λ k before after orders.
    has_order Closes orders ≡ (is_hold NotHeld after && not (is_left_unclosed k before))) n i c) s.moves
    (closed n i (wins p.config) c kept.settled.shaped) in
    unheld (hold_of q.standing.core c)
    (and_parts (is_hold NotHeld (hold_of q.standing.core c)) (not (is_left_unclosed (concern_of i c) (hold_of n c)))
    (sym law ∙ has)).0

none_closes : (c : Conn) (actions : List Action) → actions ≡ [] → list_any (closes_conn c) actions ≡ true →
    false ≡ true
none_closes c actions none closing = sym (ap (list_any (closes_conn c)) none) ∙ closing

pub closed_is_unheld : EachEventIsOneStep → ClosesWhatItGivesUp → ClosedIsUnheld
closed_is_unheld step closed p q e actions c kept is closing =
    elim (subst (Follows p e) is (step p e)) [
      | inl s ↦ closed_at closed p q e actions c kept s closing
      | inr d ↦ absurd (cc (none_closes c actions d.silent closing))
    ]

abbrev is_free_then : Change → Bool
is_free_then x = is_hold NotHeld x.next

gone_listed : (h : Hold) → list_all is_free_then (at_end h) ≡ true
gone_listed NotHeld = refl
gone_listed Pending = refl
gone_listed _ = refl

gone_at : EachConnectionChangesAsAllowed → (p q : Peer) (actions : List Action) (c : Conn) → IsKept p →
    IsStep p (Gone c) actions q → holds c q ≡ false
gone_at changes p q actions c kept s =
    let n = p.standing.core in
    let i = input_of (Gone c) s.heard in
    let x = changed_to (hold_of q.standing.core c) (orders_to c s.commands) in
    let list = at_end (hold_of n c) in
    let there : Contains (allowed (concern_of i c) (hold_of n c)) x =
    subst (AtConnection (λ j before after orders. Contains (allowed j before) (changed_to after orders)) n i c) s.moves
    (changes n i (wins p.config) c kept.settled.shaped) in
    let ends : concern_of i c ≡ EndsIt = ap (λ b. if_named b EndsIt) (eq-eqb c.0 c.0 refl) in
    unheld (hold_of q.standing.core c)
    (All-contains (λ y. is_free_then y ≡ true) list x (AllPass-from_list_all is_free_then list (gone_listed (hold_of n c)))
    (subst (λ k. Contains (allowed k (hold_of n c)) x) ends there))

pub gone_is_unheld : EachEventIsOneStep → EachConnectionChangesAsAllowed → GoneIsUnheld
gone_is_unheld step changes p q actions c kept is =
    elim (subst (Follows p (Gone c)) is (step p (Gone c))) [
      | inl s ↦ gone_at changes p q actions c kept s
      | inr d ↦ absurd (cc d.arrived)
    ]
