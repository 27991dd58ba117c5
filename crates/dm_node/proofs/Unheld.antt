-- An Ack, a Nack or an end of a connection that a peer doesn't hold is nothing to it.
use Rattle.std.proofs.Common.{◌≡◌, ℕ, Bool, true, false, cond, ◌&&◌, ◌==◌, if◌then◌else◌, Option, None, Some, is_some, List, [], ◌∷◌, refl, sym, ap, ◌∙◌, subst}
use Rattle.std.proofs.lemmas.Bool.{false_from_ne_true}
use Rattle.dm_machine.specs.declared.connection.Conn.{Conn}
use Rattle.dm_machine.specs.declared.inputs.Input.{Input}
use Rattle.dm_machine.specs.declared.phase.Role.{Role}
use Rattle.dm_machine.specs.declared.state_name.State.{State}
use Rattle.dm_machine.specs.declared.state_name.State.TheVariants.{Closed}
use Rattle.dm_machine.specs.Awaiting.{awaits_cea, awaits_dwa, awaits_dpa, holds_cer, number_after, waiting_after}
use Rattle.dm_machine.specs.Connection.{hold_as, hold_in}
use Rattle.dm_machine.specs.Moves.{is_open, machine_outcome, by_table, by_event, raises_win, then_won}
use Rattle.dm_machine.specs.Moves as moves
use Rattle.dm_machine.specs.Node.{Node}
use Rattle.dm_machine.specs.Reading.{OnNew, place_as, place_of, conn_named, event_of}
use Rattle.dm_machine.specs.Rows.{rows, row_in}
use Rattle.dm_machine.specs.Table.{NoEvent, Row}
use Rattle.dm_peer.specs.Acts.{Moved, input_of, outcome_of, standing_at, steps, turned}
use Rattle.dm_peer.specs.After.{dwa_left, standing_after}
use Rattle.dm_peer.specs.Configs.{wins}
use Rattle.dm_peer.specs.Events.{PeerEvent}
use Rattle.dm_peer.specs.Holding.{is_held, holds}
use Rattle.dm_peer.specs.Settled.{IsSettled}
use Rattle.dm_peer.specs.declared.peer.Peer.{Peer}
use Rattle.dm_node.proofs.Basics.{two_truths}
use Rattle.dm_node.proofs.Others.{as_is_held}

-- a connection that isn't held has no place
new_place : (s : State) (held : List (Role × Conn)) (c : Conn) → is_held (hold_in s held c) ≡ false →
    place_of s held c ≡ OnNew
new_place s [] c free = refl
new_place s (p ∷ ps) c free = by (p.1.0 == c.0) refl (λ rest. new_place s ps c rest)
  where
    by : (b : Bool) → (p.1.0 == c.0) ≡ b → (is_held (hold_in s ps c) ≡ false → place_of s ps c ≡ OnNew) →
        cond b (place_as s p.0) (place_of s ps c) ≡ OnNew
    by true here more =
        absurd (two_truths (is_held (hold_as s p.0)) (as_is_held s p.0)
        (subst (λ b. is_held (cond b (hold_as s p.0) (hold_in s ps c)) ≡ false) here free))
    by false other more =
        more (subst (λ b. is_held (cond b (hold_as s p.0) (hold_in s ps c)) ≡ false) other free)

-- an input that is no event of the table changes nothing
no_row : (s : State) → row_in rows s NoEvent ≡ None
no_row Closed = refl
no_row s = refl

without_row : (n : Node) (new : Option Conn) (w : Bool) (found : Option Row) → found ≡ None →
    (if raises_win found w then then_won (by_event found n NoEvent new) else by_event found n NoEvent new)
    ≡ moves.NodeMoved [] n
without_row n new w None is = refl
without_row n new w (Some r) is = absurd (cc is)

quiet : (n : Node) (i : Input) (w : Bool) → event_of n i ≡ NoEvent → machine_outcome n i w ≡ moves.NodeMoved [] n
quiet n i w is =
    ap (λ e. by_table n e (conn_named i) w) is
    ∙ without_row n (conn_named i) w (row_in rows n.state NoEvent) (no_row n.state)

-- a settled peer waits then for what it waited for
number_stays : (awaits : Bool) (next : ℕ) (old : Option ℕ) → (awaits ≡ false → old ≡ None) →
    number_after awaits false next old ≡ old
number_stays true next old none = refl
number_stays false next old none = sym (none refl)

no_number : (awaits : Bool) (old : Option ℕ) → is_some old ≡ awaits → awaits ≡ false → old ≡ None
no_number awaits None is none = refl
no_number awaits (Some x) is none = cc

waiting_stays : {H : Type 0} (holds : Bool) (heard old : Option H) → is_some old ≡ holds →
    (if holds then (if holds then old else heard) else None) ≡ old
waiting_stays true heard old is = refl
waiting_stays false heard None is = refl
waiting_stays false heard (Some x) is = cc

dwa_stays : (b : Bool) (old : Option ℕ) → (if b && false then None else old) ≡ old
dwa_stays true old = refl
dwa_stays false old = refl

standing_stays : (p : Peer) → IsSettled p → standing_after p.standing None None p.standing.core ≡ p.standing
standing_stays p was =
    let st = p.standing in
    let s = st.core.state in
    let a = st.awaited in
    let cea : number_after (awaits_cea s) false st.next a.cea ≡ a.cea =
    number_stays (awaits_cea s) st.next a.cea (no_number (awaits_cea s) a.cea was.cea) in
    let dwa : number_after (awaits_dwa s) false st.next (dwa_left s None a.dwa) ≡ a.dwa =
    ap (number_after (awaits_dwa s) false st.next) (dwa_stays (is_open s) a.dwa)
    ∙ number_stays (awaits_dwa s) st.next a.dwa was.dwa in
    let dpa : number_after (awaits_dpa s) false st.next a.dpa ≡ a.dpa =
    number_stays (awaits_dpa s) st.next a.dpa was.dpa in
    let waiting : waiting_after s None s st.waiting ≡ st.waiting =
    waiting_stays (holds_cer s) None st.waiting was.waiting in
    λ i. record {
      core = st.core;
      next = st.next;
      waiting = waiting i;
      awaited = record { cea = cea i; dwa = dwa i; dpa = dpa i };
    }

turned_is : (n : Node) (i : Input) (w : Bool) → turned n i w ≡ machine_outcome n i w
unfolding turned
turned_is n i w = refl

pub rests : (p : Peer) (e : PeerEvent) → IsSettled p → event_of p.standing.core (input_of e None) ≡ NoEvent →
    steps p e None ≡ Moved [] p
rests p e was is =
    let n = p.standing.core in
    let i = input_of e None in
    ap (outcome_of p e None) (turned_is n i (wins p.config) ∙ quiet n i (wins p.config) is)
    ∙ ap (λ s. Moved [] (standing_at p s)) (standing_stays p was)

-- the event's connection isn't held
pub is_new : (p : Peer) (c : Conn) → (holds c p ≡ true → ⊥) → place_of p.standing.core.state p.standing.core.held c ≡ OnNew
is_new p c un = new_place p.standing.core.state p.standing.core.held c (false_from_ne_true (holds c p) un)
