-- What the quiet clause asks of two peers beyond the state machine: one of them wins the election, each reads the
-- other's CER and CEA as good ones, and an answer carries the number of its request.
use Rattle.std.specs.Prelude.{◌≡◌, ℕ, Bool, true, false, not, IsTrue, ⊤, Option, Some, None, List, [], ◌∷◌}
use Rattle.dm_machine.specs.declared.inputs.Word.TheVariants.{Unreadable, Cer, Cea}
use Rattle.dm_machine.specs.declared.inputs.Input.TheVariants as input
use Rattle.dm_machine.specs.declared.outputs.Command.TheVariants as command
use Rattle.dm_machine.specs.Moves.{NodeOutcome, NodeMoved, NodeRefused}
use Rattle.dm_machine.specs.Connection.{NotHeld, Made, hold_of}
use Rattle.dm_machine.specs.Unread.{reads_first}
use Rattle.dm_machine.specs.Awaiting.{awaits_cea, holds_cer, number_after, waiting_after, cer_to_answer}
use Rattle.dm_two_peers.specs.Machine.{Conn, Node, Input, Command, machine_outcome}
use Rattle.dm_two_peers.specs.Links.{Side, A, B, flip}
use Rattle.dm_two_peers.specs.Peers.{Event, StartEvent, AckEvent, GoneEvent, ArrivedEvent}
use Rattle.dm_two_peers.specs.Peers.{Action, Connect, Send, Close, Reply, ActsBy, Declines}
use Rattle.dm_two_peers.specs.Peers.{Peers}

-- two peers that talk: a peer's configuration (C), the number of its next request, the number of the CEA that it
-- awaits, and the header (H) of a CER that waits for its CEA; whether it stands as its type asks
pub record Talks (P M C H : Type 0) : Type 0 where
  pub config_of : P → C
  pub next_of : P → ℕ
  pub awaited_of : P → Option ℕ
  pub waiting_of : P → Option H
  pub is_standing : P → Bool
  -- the configurations of the two sides, and who wins
  pub config : Side → C
  pub wins : Side → Bool
  -- the numbers of requests; the CER that a configuration makes under a number, the CEA of code 2001 that answers the
  -- CER of a number, and their headers
  pub is_number : ℕ → Bool
  pub cer : C → ℕ → M
  pub cea : C → ℕ → M
  pub cer_header : ℕ → H
  pub cea_header : ℕ → H

-- a side's peer
pub record IsPeerOf {P M C H : Type 0} (t : Talks P M C H) (s : Side) (p : P) : Type 0 where
  pub configured : t.config_of p ≡ t.config s
  pub stands : IsTrue (t.is_standing p)

-- what an event of a clean run is to the machine, and the header of the message that is read: the first message of a
-- new connection is read in some states alone, and a CEA where it is awaited
pub data IsReadAs {P M C H : Type 0} (m : Peers P M) (t : Talks P M C H) (s : Side) (p : P) : Event M → Input →
    Option H → Type 0 where
  reads_start : (c : Conn) → IsReadAs m t s p (StartEvent c) (input.Start c) None
  reads_ack : (c : Conn) → IsReadAs m t s p (AckEvent c) (input.Ack c) None
  reads_end : (c : Conn) → IsReadAs m t s p (GoneEvent c) (input.Gone c) None
  reads_cer : (c : Conn) (n : ℕ) → IsTrue (t.is_number n) → IsTrue (reads_first (m.node_of p).state) →
      hold_of (m.node_of p) c ≡ NotHeld →
      IsReadAs m t s p (ArrivedEvent c (t.cer (t.config (flip s)) n)) (input.Heard c Cer) (Some (t.cer_header n))
  leaves_cer : (c : Conn) (n : ℕ) → IsTrue (not (reads_first (m.node_of p).state)) → hold_of (m.node_of p) c ≡ NotHeld →
      IsReadAs m t s p (ArrivedEvent c (t.cer (t.config (flip s)) n)) (input.Heard c Unreadable) None
  reads_cea : (c : Conn) (n : ℕ) → IsTrue (t.is_number n) → t.awaited_of p ≡ Some n → hold_of (m.node_of p) c ≡ Made →
      IsReadAs m t s p (ArrivedEvent c (t.cea (t.config (flip s)) n)) (input.Heard c Cea) (Some (t.cea_header n))

abbrev pub has_send_cer : List Command → Bool
has_send_cer [] = false
has_send_cer (command.SendCer c ∷ more) = true
has_send_cer (_ ∷ more) = has_send_cer more

-- what is done for a command: the CER has the next number, the CEA answers its CER
abbrev pub IsSaid : {P M C H : Type 0} → Talks P M C H → Side → P → Option H → Command → Action M → Type 0
IsSaid t s p heard (command.Connect c) a = a ≡ Connect c
IsSaid t s p heard (command.Close c) a = a ≡ Close c
IsSaid t s p heard (command.SendCer c) a = a ≡ Send c (t.cer (t.config s) (t.next_of p))
IsSaid t s p heard (command.SendCea c) a =
    (n : ℕ) → cer_to_answer (t.waiting_of p) heard ≡ Some (t.cer_header n) → a ≡ Send c (t.cea (t.config s) n)
IsSaid t s p heard _ a = ⊤

abbrev pub AreSaid : {P M C H : Type 0} → Talks P M C H → Side → P → Option H → List Command → List (Action M) →
    Type 0
AreSaid t s p heard [] [] = ⊤
AreSaid t s p heard (c ∷ commands) (a ∷ actions) = IsSaid t s p heard c a × AreSaid t s p heard commands actions
AreSaid t s p heard _ _ = ⊥

-- a reply by the machine's commands and its next node
pub record RepliesBy {P M C H : Type 0} (m : Peers P M) (t : Talks P M C H) (s : Side) (p : P) (heard : Option H)
    (commands : List Command) (next : Node) (r : Reply P M) : Type 0 where
  pub actions : List (Action M)
  pub peer : P
  pub replies : r ≡ ActsBy actions peer
  pub node : m.node_of peer ≡ next
  pub same : IsPeerOf t s peer
  pub said : AreSaid t s p heard commands actions
  pub awaited : t.awaited_of peer ≡ number_after (awaits_cea next.state) (has_send_cer commands) (t.next_of p)
      (t.awaited_of p)
  pub waiting : t.waiting_of peer ≡ waiting_after (m.node_of p).state heard next.state (t.waiting_of p)

abbrev pub RepliesAs : {P M C H : Type 0} → Peers P M → Talks P M C H → Side → P → Option H → NodeOutcome → Reply P M →
    Type 0
RepliesAs m t s p heard (NodeRefused refusal) r = r ≡ Declines
RepliesAs m t s p heard (NodeMoved commands next) r = RepliesBy m t s p heard commands next r

pub record IsElecting {P M C H : Type 0} (m : Peers P M) (t : Talks P M C H) : Type 0 where
  pub one_wins : t.wins A ≡ not (t.wins B)
  pub numbers : (p : P) → IsTrue (t.is_standing p) → IsTrue (t.is_number (t.next_of p))
  pub keeps_none : (p : P) → IsTrue (t.is_standing p) → IsTrue (not (holds_cer (m.node_of p).state)) →
      t.waiting_of p ≡ None
  pub replies : (s : Side) (p : P) (e : Event M) (i : Input) (heard : Option H) → IsPeerOf t s p →
      IsReadAs m t s p e i heard →
      RepliesAs m t s p heard (machine_outcome (m.node_of p) i (t.wins s)) (m.reply p e)
