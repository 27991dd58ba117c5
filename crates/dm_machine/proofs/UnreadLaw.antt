-- Where what a message says makes no difference: the place of its connection alone decides.
use Rattle.std.proofs.Common.{◌≡◌, Bool, true, false, not, ◌==◌, if◌then◌else◌, IsTrue, Option, Some, None, List, [], ◌∷◌, refl, sym, ap, ◌∙◌}
use Rattle.dm_machine.specs.declared.connection.Conn.{Conn}
use Rattle.dm_machine.specs.declared.phase.Role.{Role}
use Rattle.dm_machine.specs.declared.phase.Role.TheVariants.{Initiated, Accepted}
use Rattle.dm_machine.specs.declared.state_name.State.{State}
use Rattle.dm_machine.specs.declared.state_name.State.TheVariants.{Closed, WaitConnAck, WaitICea, WaitConnAckElect, WaitReturns, ROpen, IOpen, Closing}
use Rattle.dm_machine.specs.declared.inputs.Input.TheVariants.{Gone}
use Rattle.dm_machine.specs.declared.inputs.Word.{Word}
use Rattle.dm_machine.specs.declared.inputs.Word.TheVariants.{Cer, CerRefused}
use Rattle.dm_machine.specs.declared.outputs.Command.TheVariants.{Close}
use Rattle.dm_machine.specs.Table.{TableEvent, RPeerDisc, NoEvent, Row}
use Rattle.dm_machine.specs.Rows.{rows, row_in}
use Rattle.dm_machine.specs.Node.{Node}
use Rattle.dm_machine.specs.Forms.{Form, closed, wait_conn_ack, wait_i_cea, wait_conn_ack_elect, wait_returns, r_open, i_open, closing}
use Rattle.dm_machine.specs.Reading.{Place, OnI, OnR, OnX, OnNew, place_as, place_of, first_message, message_on_i, message_event, event_of, end_event}
use Rattle.dm_machine.specs.Moves.{NodeMoved, raises_win, by_event, then_won, by_table}
use Rattle.dm_machine.specs.Connection.{Hold, NotHeld, Pending, Made, Taken, hold_as, hold_in, hold_of}
use Rattle.dm_machine.specs.Unread.{reads_first, ClosesUnread, DropsBeforeAck, ReadsAsPeerDisc, EndsAtWord}
use Rattle.dm_machine.proofs.FormLemmas.{form_of}

-- the place of what a connection is to a node
abbrev pub place_at : Hold → Place
place_at NotHeld = OnNew
place_at Pending = OnI
place_at Made = OnI
place_at Taken = OnR
place_at _ = OnX

place_as-hold : (s : State) (role : Role) → place_as s role ≡ place_at (hold_as s role)
place_as-hold ROpen role = refl
place_as-hold IOpen role = refl
place_as-hold Closing Initiated = refl
place_as-hold Closing Accepted = refl
place_as-hold WaitConnAck Initiated = refl
place_as-hold WaitConnAckElect Initiated = refl
place_as-hold _ Initiated = refl
place_as-hold _ Accepted = refl

place_if : (b : Bool) (here further : Place) (own rest : Hold) → here ≡ place_at own → further ≡ place_at rest →
    (if b then here else further) ≡ place_at (if b then own else rest)
place_if true here further own rest e d = e
place_if false here further own rest e d = d

place_of-hold : (s : State) (held : List (Role × Conn)) (c : Conn) → place_of s held c ≡ place_at (hold_in s held c)
place_of-hold s [] c = refl
place_of-hold s (p ∷ ps) c =
    place_if (p.1.0 == c.0) (place_as s p.0) (place_of s ps c) (hold_as s p.0) (hold_in s ps c) (place_as-hold s p.0)
    (place_of-hold s ps c)

-- the place of a connection that is this to the node
pub placed : (n : Node) (c : Conn) (h : Hold) → hold_of n c ≡ h → place_of n.state n.held c ≡ place_at h
placed n c h e = place_of-hold n.state n.held c ∙ ap place_at e

pub rejected : (n : Node) → Form n → IsTrue (not (reads_first n.state)) → (c : Conn) (wins : Bool) (w : Word) →
    by_table n (first_message w) (Some c) wins ≡ NodeMoved (Close c ∷ []) n
rejected n (wait_conn_ack_elect i r apart) g c wins Cer = refl
rejected n (wait_conn_ack_elect i r apart) g c wins CerRefused = refl
rejected n (wait_conn_ack_elect i r apart) g c wins _ = refl
rejected n (wait_returns i r apart) g c wins Cer = refl
rejected n (wait_returns i r apart) g c wins CerRefused = refl
rejected n (wait_returns i r apart) g c wins _ = refl
rejected n (r_open r k few) g c wins Cer = refl
rejected n (r_open r k few) g c wins CerRefused = refl
rejected n (r_open r k few) g c wins _ = refl
rejected n (i_open i k few) g c wins Cer = refl
rejected n (i_open i k few) g c wins CerRefused = refl
rejected n (i_open i k few) g c wins _ = refl
rejected n (closing role x) g c wins Cer = refl
rejected n (closing role x) g c wins CerRefused = refl
rejected n (closing role x) g c wins _ = refl
rejected n closed g c wins w = absurd cc
rejected n (wait_conn_ack i) g c wins w = absurd cc
rejected n (wait_i_cea i) g c wins w = absurd cc

pub closes_unread : ClosesUnread
closes_unread n c w wins shaped unread not_held =
    ap (λ (p : Place). by_table n (message_event n.state w p) (Some c) wins) (placed n c NotHeld not_held)
    ∙ rejected n (form_of n shaped) unread c wins w

-- a connection is pending only where a message on I is no event
no_event_as : (s : State) (role : Role) (w : Word) → hold_as s role ≡ Pending → message_on_i s w ≡ NoEvent
no_event_as WaitConnAck role w e = refl
no_event_as WaitConnAckElect role w e = refl
no_event_as WaitICea Initiated w e = cc
no_event_as WaitICea Accepted w e = cc
no_event_as WaitReturns Initiated w e = cc
no_event_as WaitReturns Accepted w e = cc
no_event_as Closed role w e = refl
no_event_as ROpen role w e = refl
no_event_as IOpen role w e = refl
no_event_as Closing role w e = refl

no_event_if : (s : State) (role : Role) (rest : Hold) (w : Word) (b : Bool) →
    (if b then hold_as s role else rest) ≡ Pending → (rest ≡ Pending → message_on_i s w ≡ NoEvent) →
    message_on_i s w ≡ NoEvent
no_event_if s role rest w true e further = no_event_as s role w e
no_event_if s role rest w false e further = further e

no_event : (s : State) (held : List (Role × Conn)) (c : Conn) (w : Word) → hold_in s held c ≡ Pending →
    message_on_i s w ≡ NoEvent
no_event s [] c w e = cc
no_event s (p ∷ ps) c w e = no_event_if s p.0 (hold_in s ps c) w (p.1.0 == c.0) e (no_event s ps c w)

no_row : (s : State) → row_in rows s NoEvent ≡ None
no_row Closed = refl
no_row WaitConnAck = refl
no_row WaitICea = refl
no_row WaitConnAckElect = refl
no_row WaitReturns = refl
no_row ROpen = refl
no_row IOpen = refl
no_row Closing = refl

nothing_follows : (n : Node) (new : Option Conn) (wins : Bool) → by_table n NoEvent new wins ≡ NodeMoved [] n
nothing_follows n new wins =
    ap (λ (r : Option Row). if raises_win r wins then then_won (by_event r n NoEvent new) else by_event r n NoEvent new)
    (no_row n.state)

pub drops_before_ack : DropsBeforeAck
drops_before_ack n c w wins shaped pending =
    ap (λ (p : Place). by_table n (message_event n.state w p) (Some c) wins) (placed n c Pending pending)
    ∙ (ap (λ (e : TableEvent). by_table n e (Some c) wins) (no_event n.state n.held c w pending) ∙
    nothing_follows n (Some c) wins)

pub reads_as_peer_disc : ReadsAsPeerDisc
reads_as_peer_disc n c w taken = ap (λ (p : Place). message_event n.state w p) (placed n c Taken taken)

ends_as_peer_disc : (n : Node) (c : Conn) → hold_of n c ≡ Taken → event_of n (Gone c) ≡ RPeerDisc
ends_as_peer_disc n c taken = ap (λ (p : Place). end_event n.state p) (placed n c Taken taken)

pub ends_at_word : EndsAtWord
ends_at_word n c w wins taken =
    ap (λ (e : TableEvent). by_table n e (Some c) wins)
    (reads_as_peer_disc n c w taken ∙ sym (ends_as_peer_disc n c taken))
