-- Each event as a turn of the state machine: what was heard is what the octets say, and no answer that is dropped.
use Rattle.std.proofs.Common.{◌≡◌, ◌⊎◌, inl, inr, ℕ, Bool, true, false, Option, None, Some, List, [], if◌then◌else◌, refl, sym, subst}
use Rattle.std.specs.Prelude.{⊤}
use Rattle.std.proofs.lemmas.Bool.{and_parts}
use Rattle.dm_wire.specs.declared.message.Message.{Message}
use Rattle.dm_wire.specs.Whole.{message_in}
use Rattle.dm_machine.specs.declared.connection.Conn.{Conn}
use Rattle.dm_machine.specs.declared.inputs.Input.{Input}
use Rattle.dm_machine.specs.declared.outputs.Command.{Command}
use Rattle.dm_machine.specs.Node.{Node}
use Rattle.dm_machine.specs.Connection.{hold_of}
use Rattle.dm_machine.specs.Moves as moves
use Rattle.dm_machine.specs.Moves.{is_open, machine_outcome}
use Rattle.dm_peer.specs.declared.actions.Action.{Action}
use Rattle.dm_peer.specs.declared.fault.PeerFault.TheVariants.{NotOpen, BadSubmit}
use Rattle.dm_peer.specs.declared.peer.Peer.{Peer}
use Rattle.dm_peer.specs.Events.{PeerEvent, Start, Stop, Timeout, Tick, Ack, Nack, Arrived, Gone, Submit}
use Rattle.dm_peer.specs.Configs.{wins}
use Rattle.dm_peer.specs.Said.{Heard, heard_in}
use Rattle.dm_peer.specs.Sent.{actions_of}
use Rattle.dm_peer.specs.After.{request_in, standing_after}
use Rattle.dm_peer.specs.Acts.{Outcome, Moved, Refused, acts, turned, input_of, outcome_of, standing_at, steps, is_unread, is_made, is_unawaited, is_dropped, heard_outcome, can_submit}

pub turned_is : (n : Node) (i : Input) (w : Bool) → turned n i w ≡ machine_outcome n i w
unfolding turned
turned_is n i w = refl

-- the message that was heard
pub record IsRead (p : Peer) (e : PeerEvent) (h : Heard) : Type 0 where
  pub conn : Conn
  pub octets : List ℕ
  pub message : Message
  pub came : e ≡ Arrived conn octets
  pub spelled : message_in octets ≡ Some message
  pub meant : h ≡ heard_in p.config message
  pub awaited : is_dropped p conn message.header ≡ false

abbrev pub AreRead : Peer → PeerEvent → Option Heard → Type 0
AreRead p e None = ⊤
AreRead p e (Some h) = IsRead p e h

pub record IsTurn (p : Peer) (e : PeerEvent) (actions : List Action) (next : Peer) : Type 0 where
  pub heard : Option Heard
  pub commands : List Command
  pub core : Node
  pub moves : machine_outcome p.standing.core (input_of e heard) (wins p.config) ≡ moves.NodeMoved commands core
  pub acted : actions ≡ actions_of p e heard commands
  pub stands : next ≡ standing_at p (standing_after p.standing heard (request_in commands) core)
  pub read : AreRead p e heard

-- or an answer on a connection that is made is dropped, and nothing changes
pub record DropsAnswer (p : Peer) (e : PeerEvent) (actions : List Action) (next : Peer) : Type 0 where
  pub none : actions ≡ []
  pub same : next ≡ p
  pub conn : Conn
  pub octets : List ℕ
  pub came : e ≡ Arrived conn octets
  pub made : is_made (hold_of p.standing.core conn) ≡ true

abbrev pub TurnsAs : Peer → PeerEvent → Outcome → Type 0
TurnsAs p e (Moved actions next) = IsTurn p e actions next ⊎ DropsAnswer p e actions next
TurnsAs p e (Refused f) = ⊤

by_outcome : (p : Peer) (e : PeerEvent) (h : Option Heard) → AreRead p e h → (o : moves.NodeOutcome) →
    machine_outcome p.standing.core (input_of e h) (wins p.config) ≡ o → TurnsAs p e (outcome_of p e h o)
by_outcome p e h read (moves.NodeRefused r) is = tt
by_outcome p e h read (moves.NodeMoved commands core) is =
    inl (record {
      heard = h;
      commands = commands;
      core = core;
      moves = is;
      acted = refl;
      stands = refl;
      read = read;
    })

step_turns : (p : Peer) (e : PeerEvent) (h : Option Heard) → AreRead p e h → TurnsAs p e (steps p e h)
step_turns p e h read =
    let i = input_of e h in
    by_outcome p e h read (turned p.standing.core i (wins p.config)) (sym (turned_is p.standing.core i (wins p.config)))

step : (p : Peer) (e : PeerEvent) → TurnsAs p e (steps p e None)
step p e = step_turns p e None tt

dropping : (p : Peer) (c : Conn) (s : List ℕ) (m : Message) → message_in s ≡ Some m →
    (b : Bool) → is_dropped p c m.header ≡ b →
    TurnsAs p (Arrived c s) (if b then Moved [] p else steps p (Arrived c s) (Some (heard_in p.config m)))
dropping p c s m is true drop =
    inr (record {
      none = refl;
      same = refl;
      conn = c;
      octets = s;
      came = refl;
      made = (and_parts (is_made (hold_of p.standing.core c)) (is_unawaited p.standing.awaited m.header) drop).0;
    })
dropping p c s m is false drop =
    step_turns p (Arrived c s) (Some (heard_in p.config m))
    (record {
      conn = c;
      octets = s;
      message = m;
      came = refl;
      spelled = is;
      meant = refl;
      awaited = drop;
    })

reading : (p : Peer) (c : Conn) (s : List ℕ) (o : Option Message) → message_in s ≡ o →
    TurnsAs p (Arrived c s) (heard_outcome p (Arrived c s) c o)
reading p c s None is = step p (Arrived c s)
reading p c s (Some m) is = dropping p c s m is (is_dropped p c m.header) refl

arriving : (p : Peer) (c : Conn) (s : List ℕ) (unread : Bool) →
    TurnsAs p (Arrived c s) (if unread then steps p (Arrived c s) None else heard_outcome p (Arrived c s) c (message_in s))
arriving p c s true = step p (Arrived c s)
arriving p c s false = reading p c s (message_in s) refl

submitting : (p : Peer) (s : List ℕ) (is_open_now can : Bool) →
    TurnsAs p (Submit s)
    (if is_open_now then (if can then steps p (Submit s) None else Refused BadSubmit) else Refused NotOpen)
submitting p s false can = tt
submitting p s true false = tt
submitting p s true true = step p (Submit s)

outcome_turns : (p : Peer) (e : PeerEvent) → TurnsAs p e (acts p e)
outcome_turns p (Arrived c s) = arriving p c s (is_unread p.standing.core.state (hold_of p.standing.core c))
outcome_turns p (Submit s) = submitting p s (is_open p.standing.core.state) (can_submit (message_in s))
outcome_turns p (Start c) = step p (Start c)
outcome_turns p (Stop cause) = step p (Stop cause)
outcome_turns p Timeout = step p Timeout
outcome_turns p Tick = step p Tick
outcome_turns p (Ack c) = step p (Ack c)
outcome_turns p (Nack c) = step p (Nack c)
outcome_turns p (Gone c) = step p (Gone c)

pub turns : (p : Peer) (e : PeerEvent) (actions : List Action) (next : Peer) → acts p e ≡ Moved actions next →
    TurnsAs p e (Moved actions next)
turns p e actions next is = subst (TurnsAs p e) is (outcome_turns p e)
