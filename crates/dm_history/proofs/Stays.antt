-- What each event does to an open connection: it ends it, or leaves it open with a count.
use Rattle.std.proofs.Common.{◌≡◌, ℕ, Bool, true, false, not, ◌&&◌, ◌==◌, Option, None, Some, List, [], if◌then◌else◌, refl, sym, ap, ◌∙◌}
use Rattle.dm_wire.specs.declared.message.Message.{Message}
use Rattle.dm_wire.specs.Whole.{message_in}
use Rattle.dm_machine.specs.declared.connection.Conn.{Conn}
use Rattle.dm_machine.specs.declared.state_name.State.{State}
use Rattle.dm_machine.specs.declared.state_name.State.TheVariants.{ROpen, IOpen}
use Rattle.dm_machine.specs.declared.inputs.Word.{Word}
use Rattle.dm_machine.specs.declared.inputs.Word.TheVariants.{Unreadable}
use Rattle.dm_machine.specs.declared.outputs.Command.{Command}
use Rattle.dm_machine.specs.Node.{Node}
use Rattle.dm_machine.specs.Forms.{Form, EachShapeIsAForm}
use Rattle.dm_machine.specs.Awaiting.{awaits_cea, awaits_dpa}
use Rattle.dm_machine.specs.Moves as moves
use Rattle.dm_machine.specs.Moves.{is_open, machine_outcome}
use Rattle.dm_machine.specs.Connection.{Hold, OpenAsI, OpenAsR, hold_of, Concern, StartsIt, AcksIt, NacksIt, EndsIt, HeardOnIt, if_named, concern_of}
use Rattle.dm_machine.specs.Upward.{is_open_hold}
use Rattle.dm_peer.specs.declared.actions.Action.{Action}
use Rattle.dm_peer.specs.declared.peer.Peer.{Peer}
use Rattle.dm_peer.specs.Events.{PeerEvent, Start, Stop, Timeout, Tick, Ack, Nack, Arrived, Gone, Submit}
use Rattle.dm_peer.specs.Configs.{wins}
use Rattle.dm_peer.specs.Said.{Heard, heard_in}
use Rattle.dm_peer.specs.Acts.{Outcome, Moved, acts, input_of, outcome_of, turned, steps, is_made, is_unread, is_unawaited, is_dropped}
use Rattle.dm_peer.specs.Cases.{is_deaf, is_bare, Hears, unread, no_message, message, submits_it, bare, Case, step, drop, refusal, EachEventIsACase}
use Rattle.dm_peer.specs.Silence.{drops}
use Rattle.dm_peer.specs.Settled.{IsSettled, EachEventKeepsSettled}
use Rattle.dm_history.specs.Carrying.{StandsOpen}
use Rattle.dm_history.specs.Staying.{ends_at_message, ends_open, EachOpenStays, ticks_at}
use Rattle.dm_history.proofs.SameConn.{same_conn}
use Rattle.dm_history.proofs.Turning.{turned_is}
use Rattle.dm_history.proofs.Lasting.{settled_next}
use Rattle.dm_history.proofs.Waiting.{none_there}
use Rattle.dm_history.proofs.OpenNodes.{open_node, keeps_open, kept_count, LeftAs, OpenForm, open_form, opens_itself, none_open, step_leaves, state_open}
use Rattle.dm_history.proofs.OpenWords.{keeps_word, answer_ends_none}

-- with which count an event leaves the connection open, if it does
abbrev pub count_then : Peer → Conn → PeerEvent → Option ℕ
count_then p c e = if ends_open p c e then None else Some (ticks_at p c e p.standing.core.count)

-- it is open with that count, or not open
abbrev pub open_count : Node → Conn → Option ℕ
open_count n c = if is_open_hold (hold_of n c) then Some n.count else None

pub counted_open : (n : Node) (c : Conn) → is_open_hold (hold_of n c) ≡ true → open_count n c ≡ Some n.count
counted_open n c e = ap (λ b. if b then Some n.count else None) e

left_count : (n : Node) → Form n → (c : Conn) (f : OpenForm n c) (m : Option ℕ) (next : Node) → Form next →
    LeftAs f.role c m next → open_count next c ≡ m
left_count n form c f (Some k) next after is =
    ap (λ x. open_count x c) is ∙ counted_open (open_node f.role c k) c (opens_itself f.role c k)
left_count n form c f None next after shut =
    ap (λ b. if b then Some next.count else None) (none_open next after c shut)

-- the step of the state machine behind an outcome
record StepMade (p : Peer) (e : PeerEvent) (h : Option Heard) (next : Peer) : Type 0 where
  pub commands : List Command
  pub moves : machine_outcome p.standing.core (input_of e h) (wins p.config) ≡ moves.NodeMoved commands next.standing.core

same_core : (a b : List Action) (p q : Peer) → Moved a p ≡ Moved b q → p.standing.core ≡ q.standing.core
same_core a b p q e = cc e

made_by : (p : Peer) (e : PeerEvent) (h : Option Heard) (actions : List Action) (next : Peer) (o : moves.NodeOutcome) →
    machine_outcome p.standing.core (input_of e h) (wins p.config) ≡ o → outcome_of p e h o ≡ Moved actions next →
    StepMade p e h next
made_by p e h actions next (moves.NodeRefused r) o is = absurd (cc is)
made_by p e h actions next (moves.NodeMoved commands core) o is =
    record {
      commands = commands;
      moves = o ∙ ap (moves.NodeMoved commands) (same_core _ actions _ next is);
    }

step_made : (p : Peer) (e : PeerEvent) (h : Option Heard) (actions : List Action) (next : Peer) →
    steps p e h ≡ Moved actions next → StepMade p e h next
step_made p e h actions next is =
    let n = p.standing.core in
    let i = input_of e h in
    made_by p e h actions next (turned n i (wins p.config)) (sym (turned_is n i (wins p.config))) is

count_at_step : EachShapeIsAForm → (p : Peer) → IsSettled p → (c : Conn) → StandsOpen p c → (e : PeerEvent)
    (h : Option Heard) (actions : List Action) (next : Peer) → IsSettled next → steps p e h ≡ Moved actions next →
    open_count next.standing.core c ≡ kept_count p.standing.core.count (concern_of (input_of e h) c)
count_at_step law p was c opened e h actions next later is =
    let n = p.standing.core in
    let form = law n was.shaped in
    let f = open_form n form c opened in
    let made = step_made p e h actions next is in
    left_count n form c f (kept_count n.count (concern_of (input_of e h) c)) next.standing.core
    (law next.standing.core later.shaped)
    (step_leaves n form c f (input_of e h) (wins p.config) made.commands next.standing.core made.moves)

-- what an event does, as the node counts it and as the octets say it
kept_named : (k : ℕ) (b : Bool) (q : Concern) → kept_count k q ≡ Some k → kept_count k (if_named b q) ≡ Some k
kept_named k true q e = e
kept_named k false q e = refl

kept_gone : (k : ℕ) (b : Bool) → kept_count k (if_named b EndsIt) ≡ (if b then None else Some k)
kept_gone k true = refl
kept_gone k false = refl

kept_heard : (k : ℕ) (w : Word) (b ends dropped : Bool) → (b ≡ true → keeps_open w ≡ not ends) →
    (b ≡ true → dropped ≡ false) →
    kept_count k (if_named b (HeardOnIt w))
    ≡ (if b && ends then None else Some (if b && not dropped then 0 else k))
kept_heard k w false ends dropped says takes = refl
kept_heard k w true true dropped says takes = ap (λ x. if x then Some 0 else None) (says refl)
kept_heard k w true false dropped says takes =
    ap (λ x. if x then Some 0 else None) (says refl)
    ∙ ap (λ x. Some (if not x then 0 else k)) (sym (takes refl))

-- an answer that is dropped changes nothing
kept_dropped : (k : ℕ) (b ends dropped : Bool) → ends ≡ false → (b ≡ true → dropped ≡ true) →
    Some k ≡ (if b && ends then None else Some (if b && not dropped then 0 else k))
kept_dropped k false ends dropped none takes = refl
kept_dropped k true true dropped none takes = cc none
kept_dropped k true false true none takes = refl
kept_dropped k true false false none takes = cc (takes refl)

-- an open connection is made, and awaits neither a CEA nor a DPA
open_made : (h : Hold) → is_open_hold h ≡ true → is_made h ≡ true
open_made OpenAsI e = refl
open_made OpenAsR e = refl
open_made _ e = cc

open_heard : (p : Peer) (c : Conn) → StandsOpen p c → is_deaf p c ≡ false
open_heard p c opened = by_hold (hold_of p.standing.core c) opened where
  by_hold : (h : Hold) → is_open_hold h ≡ true → is_unread p.standing.core.state h ≡ false
  by_hold OpenAsI e = refl
  by_hold OpenAsR e = refl
  by_hold _ e = cc

open_awaits : (n : Node) → is_open n.state ≡ true → (awaits_cea n.state ≡ false) × (awaits_dpa n.state ≡ false)
open_awaits n e = by_state n.state e where
  by_state : (s : State) → is_open s ≡ true → (awaits_cea s ≡ false) × (awaits_dpa s ≡ false)
  by_state ROpen e = (refl, refl)
  by_state IOpen e = (refl, refl)
  by_state _ e = absurd (cc e)

deaf_elsewhere : (p : Peer) (c d : Conn) → StandsOpen p c → is_deaf p d ≡ true → (d.0 == c.0) ≡ true → ⊥
deaf_elsewhere p c d opened deaf same =
    cc (sym (ap (is_deaf p) (same_conn d c same) ∙ open_heard p c opened) ∙ deaf)

-- that an answer that came is awaited
taken_there : (p : Peer) (c d : Conn) (m : Message) → StandsOpen p c → is_dropped p d m.header ≡ false → d ≡ c →
    is_unawaited p.standing.awaited m.header ≡ false
taken_there p c d m opened kept same =
    sym (ap (λ b. b && is_unawaited p.standing.awaited m.header)
    (ap (λ x. is_made (hold_of p.standing.core x)) same ∙ open_made (hold_of p.standing.core c) opened)) ∙ kept

none_of : (p : Peer) → IsSettled p → is_open p.standing.core.state ≡ true →
    (p.standing.awaited.cea ≡ None) × (p.standing.awaited.dpa ≡ None)
none_of p was opened =
    let none = open_awaits p.standing.core opened in
    (none_there (awaits_cea p.standing.core.state) p.standing.awaited.cea was.cea none.0, was.dpa none.1)

by_bare : (p : Peer) (c : Conn) (e : PeerEvent) → is_bare e ≡ true →
    kept_count p.standing.core.count (concern_of (input_of e None) c) ≡ count_then p c e
by_bare p c (Start d) is = kept_named p.standing.core.count (d.0 == c.0) StartsIt refl
by_bare p c (Stop cause) is = refl
by_bare p c Timeout is = refl
by_bare p c Tick is = refl
by_bare p c (Ack d) is = kept_named p.standing.core.count (d.0 == c.0) AcksIt refl
by_bare p c (Nack d) is = kept_named p.standing.core.count (d.0 == c.0) NacksIt refl
by_bare p c (Gone d) is = kept_gone p.standing.core.count (d.0 == c.0)
by_bare p c (Arrived d s) is = absurd (cc is)
by_bare p c (Submit s) is = absurd (cc is)

said_count : EachShapeIsAForm → (p : Peer) → IsSettled p → (c : Conn) → StandsOpen p c → (e : PeerEvent)
    (h : Option Heard) → Hears p e h →
    kept_count p.standing.core.count (concern_of (input_of e h) c) ≡ count_then p c e
said_count law p was c opened e h (unread d s deaf) =
    kept_heard p.standing.core.count Unreadable (d.0 == c.0) (ends_at_message p.config (message_in s))
    (drops p c (message_in s)) (λ same. absurd (deaf_elsewhere p c d opened deaf same))
    (λ same. absurd (deaf_elsewhere p c d opened deaf same))
said_count law p was c opened e h (no_message d s read none) =
    kept_heard p.standing.core.count Unreadable (d.0 == c.0) (ends_at_message p.config (message_in s))
    (drops p c (message_in s)) (λ same. sym (ap (λ o. not (ends_at_message p.config o)) none))
    (λ same. ap (drops p c) none)
said_count law p was c opened e h (message d s m read is kept) =
    let state = state_open p.standing.core (law p.standing.core was.shaped) c opened in
    let none = none_of p was state in
    kept_heard p.standing.core.count (heard_in p.config m).word (d.0 == c.0)
    (ends_at_message p.config (message_in s)) (drops p c (message_in s))
    (λ same. keeps_word p.config m p.standing.awaited none.0 none.1
    (taken_there p c d m opened kept (same_conn d c same))
    ∙ sym (ap (λ o. not (ends_at_message p.config o)) is))
    (λ same. ap (drops p c) is ∙ (ap (λ x. is_dropped p x m.header) (sym (same_conn d c same)) ∙ kept))
said_count law p was c opened e h (submits_it s state can) = refl
said_count law p was c opened e h (bare f is) = by_bare p c f is

-- an answer that is dropped has no R bit
dropped_answer : (made r rest : Bool) → (made && (not r && rest)) ≡ true → r ≡ false
dropped_answer true false rest e = refl
dropped_answer true true rest e = cc e
dropped_answer false r rest e = cc e

by_case : EachShapeIsAForm → (p : Peer) → IsSettled p → (c : Conn) → StandsOpen p c → (e : PeerEvent) (o : Outcome) →
    Case p e o → (actions : List Action) (next : Peer) → IsSettled next → o ≡ Moved actions next →
    open_count next.standing.core c ≡ count_then p c e
by_case law p was c opened e o (step f h hears) actions next later is =
    count_at_step law p was c opened f h actions next later is ∙ said_count law p was c opened f h hears
by_case law p was c opened e o (drop d s m read is dropped) actions next later same =
    ap (λ n. open_count n c) (sym (same_core [] actions p next same))
    ∙ (counted_open p.standing.core c opened
    ∙ kept_dropped p.standing.core.count (d.0 == c.0) (ends_at_message p.config (message_in s))
    (drops p c (message_in s))
    (ap (ends_at_message p.config) is
    ∙ answer_ends_none p.config m (dropped_answer (is_made (hold_of p.standing.core d)) m.header.request _ dropped))
    (λ there. ap (drops p c) is ∙ (ap (λ x. is_dropped p x m.header) (sym (same_conn d c there)) ∙ dropped)))
by_case law p was c opened e o (refusal s f by) actions next later is = absurd (cc is)

pub count_next : EachShapeIsAForm → EachEventIsACase → (p : Peer) → IsSettled p → (c : Conn) → StandsOpen p c →
    (e : PeerEvent) (actions : List Action) (next : Peer) → IsSettled next → acts p e ≡ Moved actions next →
    open_count next.standing.core c ≡ count_then p c e
count_next law cases p was c opened e actions next later is =
    by_case law p was c opened e (acts p e) (cases p e) actions next later is

-- so it is open still, or not
open_if_counted : (b ends : Bool) (k j : ℕ) → (if b then Some k else None) ≡ (if ends then None else Some j) →
    b ≡ not ends
open_if_counted true true k j e = cc e
open_if_counted true false k j e = refl
open_if_counted false true k j e = refl
open_if_counted false false k j e = cc e

pub stays : EachShapeIsAForm → EachEventIsACase → EachEventKeepsSettled → EachOpenStays
stays law cases kept p c e actions next was opened is =
    open_if_counted (is_open_hold (hold_of next.standing.core c)) (ends_open p c e) next.standing.core.count
    (ticks_at p c e p.standing.core.count)
    (count_next law cases p was c opened e actions next (settled_next kept p e actions next is was) is)
