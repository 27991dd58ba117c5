-- What comes on a connection that a peer doesn't hold is turned away, but for a good CER where one is read.
use Rattle.std.proofs.Common.{◌≡◌, ℕ, Bool, true, false, not, ◌&&◌, Option, None, Some, is_some, List, ◌∷◌, [], if◌then◌else◌, option_map, inl, inr, refl, sym, subst, ap, ◌∙◌}
use Rattle.std.proofs.Math.Bool.{and-false}
use Rattle.dm_wire.specs.declared.message.Header.{Header}
use Rattle.dm_wire.specs.declared.message.Message.{Message}
use Rattle.dm_wire.specs.Whole.{message_in}
use Rattle.dm_machine.specs.declared.connection.Conn.{Conn}
use Rattle.dm_machine.specs.declared.state_name.State.{State}
use Rattle.dm_machine.specs.declared.state_name.State.TheVariants.{ROpen, IOpen}
use Rattle.dm_machine.specs.declared.outputs.Command.{Command}
use Rattle.dm_machine.specs.declared.outputs.Command.TheVariants as command
use Rattle.dm_machine.specs.Node.{Node}
use Rattle.dm_machine.specs.Connection.{NotHeld, hold_of}
use Rattle.dm_machine.specs.Moves.{is_open}
use Rattle.dm_machine.specs.Unread.{reads_first}
use Rattle.dm_machine.specs.Strangers.{is_refused_cer, lets_in, TurnsStrangersAway}
use Rattle.dm_peer.specs.declared.standing.Standing.{Standing}
use Rattle.dm_peer.specs.declared.peer.Peer.{Peer}
use Rattle.dm_peer.specs.Events.{Arrived}
use Rattle.dm_peer.specs.Configs.{wins}
use Rattle.dm_peer.specs.Octets.{octets_of}
use Rattle.dm_peer.specs.Said.{Heard, heard_in, word_heard, header_heard}
use Rattle.dm_peer.specs.Sent.{actions_of, refusal, header_of, fault_in}
use Rattle.dm_machine.specs.Awaiting.{awaits_cea, awaits_dwa, awaits_dpa, holds_cer, number_after}
use Rattle.dm_peer.specs.After.{is_dwa, dwa_left, request_in, standing_after}
use Rattle.dm_peer.specs.Settled.{IsSettled}
use Rattle.dm_peer.specs.Acts.{Moved, input_of, outcome_of, standing_at, steps, is_made, is_unread, is_unawaited, heard_outcome}
use Rattle.dm_peer.specs.Strangers.{TurnsAway, OnlyTurnsAway, StrangersChangeNothing}
use Rattle.dm_peer.proofs.Following.{turned_is}

-- where no request is sent and no state is left, a settled peer waits for what it waited for
number_stays : (awaits : Bool) (next : ℕ) (old : Option ℕ) → (awaits ≡ false → old ≡ None) →
    number_after awaits false next old ≡ old
number_stays true next old none = refl
number_stays false next old none = sym (none refl)

no_number : (awaits : Bool) (old : Option ℕ) → is_some old ≡ awaits → awaits ≡ false → old ≡ None
no_number awaits None is none = refl
no_number awaits (Some x) is none = cc

waiting_stays : (holds : Bool) (heard old : Option Header) → is_some old ≡ holds →
    (if holds then (if holds then old else heard) else None) ≡ old
waiting_stays true heard old is = refl
waiting_stays false heard None is = refl
waiting_stays false heard (Some x) is = cc

dwa_stays : (s : State) (h : Option Heard) (old : Option ℕ) → (is_open s && is_dwa (word_heard h)) ≡ false →
    dwa_left s h old ≡ old
dwa_stays s h old none = rw none refl

abbrev standing_with : Node → ℕ → Option Header → Option ℕ → Option ℕ → Option ℕ → Standing
standing_with core next waiting cea dwa dpa =
    record { core = core; next = next; waiting = waiting; awaited = record { cea = cea; dwa = dwa; dpa = dpa } }

standing_stays : (p : Peer) (h : Option Heard) → IsSettled p →
    (is_open p.standing.core.state && is_dwa (word_heard h)) ≡ false →
    standing_after p.standing h None p.standing.core ≡ p.standing
standing_stays p h was no_dwa =
    let st = p.standing in
    let s = st.core.state in
    let a = st.awaited in
    let cea = number_stays (awaits_cea s) st.next a.cea (no_number (awaits_cea s) a.cea was.cea) in
    let left = dwa_stays s h a.dwa no_dwa in
    let dwa = ap (number_after (awaits_dwa s) false st.next) left
    ∙ number_stays (awaits_dwa s) st.next a.dwa was.dwa in
    let dpa = number_stays (awaits_dpa s) st.next a.dpa was.dpa in
    let waiting = waiting_stays (holds_cer s) (header_heard h) st.waiting was.waiting in
    let after_dwa = number_after (awaits_dwa s) false st.next (dwa_left s h a.dwa) in
    let after_dpa = number_after (awaits_dpa s) false st.next a.dpa in
    let after_cea = number_after (awaits_cea s) false st.next a.cea in
    ap (λ x. standing_with st.core st.next x after_cea after_dwa after_dpa) waiting
    ∙ (ap (λ x. standing_with st.core st.next st.waiting x after_dwa after_dpa) cea
    ∙ (ap (λ x. standing_with st.core st.next st.waiting a.cea x after_dpa) dwa
    ∙ ap (λ x. standing_with st.core st.next st.waiting a.cea a.dwa x) dpa))

-- the commands that turn a message away
abbrev away : Bool → Conn → List Command
away answers c =
    if answers then command.SendRefusal c ∷ command.Close c ∷ [] else command.Close c ∷ []

away_closes : (p : Peer) (c : Conn) (s : List ℕ) (h : Option Heard) (answers : Bool) →
    TurnsAway c (actions_of p (Arrived c s) h (away answers c))
away_closes p c s h true = inr (octets_of (refusal p.config.node (header_of h) (fault_in h)), refl)
away_closes p c s h false = inl refl

asks_nothing : (c : Conn) (answers : Bool) → request_in (away answers c) ≡ None
asks_nothing c true = refl
asks_nothing c false = refl

-- a step at a message that isn't let in
step_away : TurnsStrangersAway → (p : Peer) (c : Conn) (s : List ℕ) (h : Option Heard) → IsSettled p →
    hold_of p.standing.core c ≡ NotHeld → (is_open p.standing.core.state && is_dwa (word_heard h)) ≡ false →
    lets_in p.standing.core.state (word_heard h) ≡ false → OnlyTurnsAway p c (steps p (Arrived c s) h)
step_away law p c s h was free no_dwa out =
    let n = p.standing.core in
    let w = word_heard h in
    let answers = reads_first n.state && is_refused_cer w in
    let e = Arrived c s in
    subst (λ o. OnlyTurnsAway p c (outcome_of p e h o))
    (sym (turned_is n (input_of e h) (wins p.config) ∙ law n c w (wins p.config) was.shaped free out)) (
      away_closes p c s h answers,
      ap (λ r. standing_at p (standing_after p.standing h r n)) (asks_nothing c answers)
          ∙ ap (standing_at p) (standing_stays p h was no_dwa),
    )

-- no open state reads a first message
not_open : (s : State) (b : Bool) → reads_first s ≡ true → (is_open s && b) ≡ false
not_open ROpen b reads = cc
not_open IOpen b reads = cc
not_open _ b reads = refl

-- what is heard where first messages are read
read_away : TurnsStrangersAway → (p : Peer) (c : Conn) (s : List ℕ) (m : Option Message) → IsSettled p →
    hold_of p.standing.core c ≡ NotHeld → reads_first p.standing.core.state ≡ true →
    lets_in p.standing.core.state (word_heard (option_map (heard_in p.config) m)) ≡ false →
    OnlyTurnsAway p c (heard_outcome p (Arrived c s) c m)
read_away law p c s None was free reads out =
    step_away law p c s None was free (not_open p.standing.core.state false reads) out
read_away law p c s (Some m) was free reads out =
    let h = Some (heard_in p.config m) in
    subst (λ hold. OnlyTurnsAway p c (if is_made hold && is_unawaited p.standing.awaited m.header
    then Moved [] p else steps p (Arrived c s) h)) (sym free)
    (step_away law p c s h was free (not_open p.standing.core.state (is_dwa (word_heard h)) reads) out)

pub strangers : TurnsStrangersAway → StrangersChangeNothing
strangers law p c s was strange =
    let n = p.standing.core in
    subst (λ hold. OnlyTurnsAway p c (if is_unread n.state hold then steps p (Arrived c s) None
    else heard_outcome p (Arrived c s) c (message_in s))) (sym strange.0) (by (reads_first n.state) refl)
  where
    by : (reads : Bool) → reads_first p.standing.core.state ≡ reads →
        OnlyTurnsAway p c (if not reads then steps p (Arrived c s) None else heard_outcome p (Arrived c s) c (message_in s))
    by true reads = read_away law p c s (message_in s) was strange.0 reads strange.1
    by false reads =
        step_away law p c s None was strange.0 (and-false (is_open p.standing.core.state))
        (and-false (reads_first p.standing.core.state))
