-- What is handed up, as whole lists: at each event just what came for the user on the open connection.
use Rattle.std.proofs.Common.{◌≡◌, inl, inr, ℕ, Bool, true, false, not, ◌&&◌, Option, None, Some, List, [], ◌∷◌, ◌++◌, if◌then◌else◌, refl, sym, subst, ap, ◌∙◌}
use Rattle.std.proofs.lemmas.Bool.{and_parts, and_from}
use Rattle.dm_wire.specs.declared.message.Message.{Message}
use Rattle.dm_wire.specs.Whole.{message_in}
use Rattle.dm_base.specs.Commands.{is_base_command}
use Rattle.dm_machine.specs.declared.connection.Conn.{Conn}
use Rattle.dm_machine.specs.Connection.{hold_of}
use Rattle.dm_machine.specs.Upward.{is_open_hold, HandsUpWhereOpen, HandsUpEach}
use Rattle.dm_peer.specs.declared.actions.Action.{Action}
use Rattle.dm_peer.specs.declared.actions.Action.TheVariants.{Connect, Send, Close, Up}
use Rattle.dm_peer.specs.declared.peer.Peer.{Peer}
use Rattle.dm_peer.specs.Events.{PeerEvent, Arrived}
use Rattle.dm_peer.specs.Acts.{Moved, acts}
use Rattle.dm_peer.specs.Settled.{IsSettled, EachEventKeepsSettled}
use Rattle.dm_history.specs.History.{untold, done, declined, StandsAmong}
use Rattle.dm_history.specs.Carrying.{SpellOther, CameOnOpen}
use Rattle.dm_history.specs.InOrder.{ups_in, is_for_user, comes_open, all_came_open, EachRunIsInOrder}
use Rattle.dm_history.proofs.Among.{further, none_among}
use Rattle.dm_history.proofs.Turning.{TurnsAs, turns}
use Rattle.dm_history.proofs.UserMessages.{handed_up, each_up}
use Rattle.dm_history.proofs.Replays.{settled_through, peer_is}

abbrev NoUp : List Action → Type 0
NoUp l = (s : List ℕ) → StandsAmong l (Up s) → ⊥

no_ups : (l : List Action) → NoUp l → ups_in l ≡ []
no_ups [] none = refl
no_ups (Up s ∷ l) none = absurd (none s ([], l, refl))
no_ups (Connect c ∷ l) none = no_ups l (λ s there. none s (further (Connect c) (Up s) l there))
no_ups (Send c t ∷ l) none = no_ups l (λ s there. none s (further (Send c t) (Up s) l there))
no_ups (Close c ∷ l) none = no_ups l (λ s there. none s (further (Close c) (Up s) l there))

up_came : HandsUpWhereOpen → (p : Peer) → IsSettled p → (e : PeerEvent) (actions : List Action) (next : Peer) →
    TurnsAs p e (Moved actions next) → (s : List ℕ) → StandsAmong actions (Up s) → CameOnOpen p e s
up_came law p was e actions next (inl t) s there = handed_up law p was e actions next t s there
up_came law p was e actions next (inr d) s there =
    absurd (none_among (Up s) (subst (λ (l : List Action). StandsAmong l (Up s)) d.none there))

said_for_user : (s : List ℕ) → SpellOther s → is_for_user (message_in s) ≡ true
said_for_user s o = ap is_for_user o.spelled ∙ ap not o.other

not_true : (b : Bool) → not b ≡ true → b ≡ false
not_true true e = cc e
not_true false e = refl

-- the message that is for the user
pub user_message : (s : List ℕ) (o : Option Message) → message_in s ≡ o → is_for_user o ≡ true →
    (m : Message) × (message_in s ≡ Some m) × (is_base_command m.header.command ≡ false)
user_message s None is e = absurd (cc e)
user_message s (Some m) is e = (m, is, not_true (is_base_command m.header.command) e)

same_moved : (a b : List Action) (p q : Peer) → Moved a p ≡ Moved b q → a ≡ b
same_moved a b p q e = cc e

by_arrival : HandsUpEach → (p : Peer) → IsSettled p → (c : Conn) (s : List ℕ) (actions : List Action) (next : Peer) →
    acts p (Arrived c s) ≡ Moved actions next →
    ((t : List ℕ) → StandsAmong actions (Up t) → CameOnOpen p (Arrived c s) t) → (b : Bool) →
    (is_open_hold (hold_of p.standing.core c) && is_for_user (message_in s)) ≡ b →
    ups_in actions ≡ (if b then s ∷ [] else [])
by_arrival law p was c s actions next is up true so =
    let both = and_parts (is_open_hold (hold_of p.standing.core c)) (is_for_user (message_in s)) so in
    let m = user_message s (message_in s) refl both.1 in
    let there = each_up law p was c s m.0 both.0 m.1 m.2 in
    ap ups_in (same_moved actions (Up s ∷ []) next there.0 (sym is ∙ there.1))
by_arrival law p was c s actions next is up false so =
    no_ups actions (λ t there.
    let came = up t there in
    let here : came.conn ≡ c = cc came.came in
    let same : t ≡ s = cc came.came in
    let opened = ap (λ d. is_open_hold (hold_of p.standing.core d)) (sym here) ∙ came.opened in
    let said = ap (λ l. is_for_user (message_in l)) (sym same) ∙ said_for_user t came.said in
    cc (sym so ∙ and_from (is_open_hold (hold_of p.standing.core c)) (is_for_user (message_in s)) opened said))

up_at_event : HandsUpWhereOpen → HandsUpEach → (p : Peer) → IsSettled p → (e : PeerEvent) (actions : List Action)
    (next : Peer) → acts p e ≡ Moved actions next → ups_in actions ≡ comes_open p e
up_at_event law each p was (Arrived c s) actions next is =
    by_arrival each p was c s actions next is
    (up_came law p was (Arrived c s) actions next (turns p (Arrived c s) actions next is))
    (is_open_hold (hold_of p.standing.core c) && is_for_user (message_in s)) refl
up_at_event law each p was e actions next is =
    no_ups actions (λ s there. cc (up_came law p was e actions next (turns p e actions next is) s there).came)

pub in_order : EachEventKeepsSettled → HandsUpWhereOpen → HandsUpEach → EachRunIsInOrder
in_order kept law each first past p was untold = refl
in_order kept law each first past p was (done older q e actions after lived is) =
    let before = in_order kept law each first older q was lived in
    let settled = settled_through kept first older q was lived in
    let now = up_at_event law each q settled e actions p is ∙ ap (λ r. comes_open r e) (peer_is first older q lived) in
    ap (λ l. l ++ ups_in actions) before ∙ ap (λ l. all_came_open first older ++ l) now
in_order kept law each first past p was (declined older q e lived) =
    ap (λ l. l ++ []) (in_order kept law each first older q was lived)
