-- The state machine with numbers as peers: a message is its word and the number of its request. It shows that peers as
-- the quiet clause asks for them exist, and what the definitions say of two runs.
use Rattle.std.specs.Prelude.{◌≡◌, ℕ, Bool, true, false, not, ◌&&◌, ◌||◌, if◌then◌else◌, is_none, Option, Some, None}
use Rattle.std.specs.Prelude.{IfSome, List, [], ◌∷◌, map, length}
use Rattle.dm_machine.specs.declared.inputs.Word.{Word}
use Rattle.dm_machine.specs.declared.inputs.Word.TheVariants.{Unreadable, Cer, Cea, CeaFailed, Dwr, Dwa, Dpr, Dpa}
use Rattle.dm_machine.specs.declared.inputs.Word.TheVariants.{Other}
use Rattle.dm_machine.specs.declared.inputs.Input.TheVariants as input
use Rattle.dm_machine.specs.declared.outputs.Command.TheVariants as command
use Rattle.dm_machine.specs.Connection.{Hold, NotHeld, hold_of}
use Rattle.dm_machine.specs.Moves.{NodeOutcome, NodeMoved, NodeRefused}
use Rattle.dm_machine.specs.Unread.{reads_first}
use Rattle.dm_two_peers.specs.Machine.{Conn, Node, Input, Command, machine_outcome, closed_node}
use Rattle.dm_two_peers.specs.Links.{Side, A, B}
use Rattle.dm_two_peers.specs.Peers.{Event, StartEvent, StopEvent, TimeoutEvent, TickEvent, AckEvent}
use Rattle.dm_two_peers.specs.Peers.{NackEvent, GoneEvent, SubmitEvent, ArrivedEvent, Action, Connect}
use Rattle.dm_two_peers.specs.Peers.{Send, Close, Reply, ActsBy, Declines, Peers}
use Rattle.dm_two_peers.specs.Peers as peers
use Rattle.dm_two_peers.specs.Worlds.{World, PutMessage, Disconnect}
use Rattle.dm_two_peers.specs.Happens.{run}
use Rattle.dm_two_peers.specs.Laws.{world_of}
use Rattle.dm_two_peers.specs.Kinds.{one_starts, both_start}
use Rattle.dm_two_peers.specs.Quiet.{is_quiet, kept}
use Rattle.dm_machine.specs.Awaiting.{awaits_cea, holds_cer, number_after, waiting_after, cer_to_answer}
use Rattle.dm_two_peers.specs.Electing.{Talks, has_send_cer, IsElecting}

pub record Note : Type 0 where
  pub word : Word
  pub number : ℕ

abbrev pub note_of : Word → ℕ → Note
note_of w n = record { word = w; number = n }

pub record Talker : Type 0 where
  pub node : Node
  pub wins : Bool
  pub next : ℕ
  pub awaited : Option ℕ
  pub waiting : Option ℕ

abbrev pub is_unheld : Hold → Bool
is_unheld NotHeld = true
is_unheld _ = false

-- the first message of a new connection isn't read in some states
abbrev pub is_unread_by : Talker → Conn → Bool
is_unread_by p c = not (reads_first p.node.state) && is_unheld (hold_of p.node c)

abbrev pub talker_input : Talker → Event Note → Input
talker_input p (StartEvent c) = input.Start c
talker_input p (StopEvent cause) = input.Stop
talker_input p TimeoutEvent = input.Timeout
talker_input p TickEvent = input.Tick
talker_input p (AckEvent c) = input.Ack c
talker_input p (NackEvent c) = input.Nack c
talker_input p (GoneEvent c) = input.Gone c
talker_input p (SubmitEvent x) = input.Submit
talker_input p (ArrivedEvent c x) = if is_unread_by p c then input.Heard c Unreadable else input.Heard c x.word

abbrev pub talker_heard : Talker → Event Note → Option ℕ
talker_heard p (ArrivedEvent c x) = if is_unread_by p c then None else Some x.number
talker_heard p _ = None

abbrev pub number_or_zero : Option ℕ → ℕ
number_or_zero None = 0
number_or_zero (Some n) = n

abbrev pub talker_action : Talker → Option ℕ → Command → Action Note
talker_action p heard (command.Connect c) = Connect c
talker_action p heard (command.SendCer c) = Send c (note_of Cer p.next)
talker_action p heard (command.SendCea c) = Send c (note_of Cea (number_or_zero (cer_to_answer p.waiting heard)))
talker_action p heard (command.SendRefusal c) = Send c (note_of CeaFailed 0)
talker_action p heard (command.SendDwr c) = Send c (note_of Dwr 0)
talker_action p heard (command.SendDwa c) = Send c (note_of Dwa 0)
talker_action p heard (command.SendDpr c) = Send c (note_of Dpr 0)
talker_action p heard (command.SendDpa c) = Send c (note_of Dpa 0)
talker_action p heard (command.SendSubmit c) = Send c (note_of Other 0)
talker_action p heard (command.Close c) = Close c
talker_action p heard command.Up = peers.HandUp (note_of Other 0)

abbrev pub talker_after : Talker → Option ℕ → List Command → Node → Talker
talker_after p heard commands n =
    record {
      node = n;
      wins = p.wins;
      next = p.next;
      awaited = number_after (awaits_cea n.state) (has_send_cer commands) p.next p.awaited;
      waiting = waiting_after p.node.state heard n.state p.waiting;
    }

abbrev pub talk_by : Talker → Option ℕ → NodeOutcome → Reply Talker Note
talk_by p heard (NodeMoved commands n) = ActsBy (map (talker_action p heard) commands) (talker_after p heard commands n)
talk_by p heard (NodeRefused r) = Declines

-- a closed one, that uses a number
abbrev pub closed_talker : Bool → ℕ → Talker
closed_talker wins next = record { node = closed_node; wins = wins; next = next; awaited = None; waiting = None }

abbrev pub talkers : Peers Talker Note
talkers =
    record {
      node_of = λ p. p.node;
      reply = λ p e. talk_by p (talker_heard p e) (machine_outcome p.node (talker_input p e) p.wins);
      reset = λ p. closed_talker p.wins p.next;
      size = λ x. 1;
    }

-- A wins
abbrev pub is_a : Side → Bool
is_a A = true
is_a B = false

abbrev pub talk_of_talkers : Talks Talker Note Bool ℕ
talk_of_talkers =
    record {
      config_of = λ p. p.wins;
      next_of = λ p. p.next;
      awaited_of = λ p. p.awaited;
      waiting_of = λ p. p.waiting;
      is_standing = λ p. holds_cer p.node.state || is_none p.waiting;
      config = is_a;
      wins = is_a;
      is_number = λ n. true;
      cer = λ c n. note_of Cer n;
      cea = λ c n. note_of Cea n;
      cer_header = λ n. n;
      cea_header = λ n. n;
    }

abbrev pub TalkersAreElecting : Type 0
TalkersAreElecting = IsElecting talkers talk_of_talkers

abbrev pub two_talkers : World Talker Note
two_talkers = world_of (closed_talker true 7) (closed_talker false 8)

-- one side starts: its CER and the CEA are put in on its link. Both start, and the link of the side that doesn't win is
-- kept: a CER on each link, the winner's disconnect of its own, its CEA on the other, and the disconnect in turn
pub record TwoTalks : Type 0 where
  pub one_side : IfSome (run talkers two_talkers one_starts) (λ r. (is_quiet r.world ≡ true) × (length r.put ≡ 2))
  pub its_link : kept talkers is_a two_talkers one_starts ≡ Some (record { opener = A; link = 0 })
  pub both_sides : IfSome (run talkers two_talkers both_start) (λ r. (is_quiet r.world ≡ true) × (length r.put ≡ 5))
  pub one_course : IfSome (run talkers two_talkers one_starts)
      (λ r. r.put ≡ PutMessage 0 B (note_of Cer 7) ∷ PutMessage 0 A (note_of Cea 7) ∷ [])
  pub both_courses : IfSome (run talkers two_talkers both_start)
      (λ r. r.put ≡ PutMessage 0 B (note_of Cer 7) ∷ PutMessage 1 A (note_of Cer 8) ∷ Disconnect 0 B ∷
      PutMessage 1 B (note_of Cea 8)
      ∷ Disconnect 0 A ∷ [])
  pub kept_link : kept talkers is_a two_talkers both_start ≡ Some (record { opener = B; link = 1 })
