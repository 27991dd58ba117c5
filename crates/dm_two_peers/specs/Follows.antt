-- Peers that move as the state machine.
use Rattle.std.specs.Prelude.{◌≡◌, ℕ, Bool, true, false, IsTrue, ⊤, ◌⊎◌, List, [], map}
use Rattle.dm_machine.specs.declared.inputs.Input.TheVariants as input
use Rattle.dm_machine.specs.declared.inputs.Word.{Word}
use Rattle.dm_machine.specs.declared.outputs.Refusal.{Refusal}
use Rattle.dm_machine.specs.Moves.{NodeMoved, NodeRefused}
use Rattle.dm_two_peers.specs.Machine.{Conn, conn, Input, Command, LinkConcern}
use Rattle.dm_two_peers.specs.Machine.{Elsewhere, HeardOnLink, machine_outcome, Tie}
use Rattle.dm_two_peers.specs.Machine.{Connected, ConnectedOpen, AcceptedTie, tie_of, closed_node}
use Rattle.dm_machine.specs.Deeds.{deed_of_command}
use Rattle.dm_two_peers.specs.Peers.{Event, StartEvent, StopEvent, TimeoutEvent, TickEvent, AckEvent}
use Rattle.dm_two_peers.specs.Peers.{NackEvent, GoneEvent, SubmitEvent, ArrivedEvent, Action, Reply}
use Rattle.dm_two_peers.specs.Peers.{ActsBy, Declines, Peers, concern_by, deed_in}

-- an event as the machine's input, with the word of what came
abbrev pub input_told : {M : Type 0} → Event M → Word → Input
input_told (StartEvent c) word = input.Start c
input_told (StopEvent cause) word = input.Stop
input_told TimeoutEvent word = input.Timeout
input_told TickEvent word = input.Tick
input_told (AckEvent c) word = input.Ack c
input_told (NackEvent c) word = input.Nack c
input_told (GoneEvent c) word = input.Gone c
input_told (SubmitEvent x) word = input.Submit
input_told (ArrivedEvent c x) word = input.Heard c word

-- one step of the machine, at the event with some word, with an action for each command
pub record StepsAsMachine {P M : Type 0} (m : Peers P M) (p : P) (e : Event M) (actions : List (Action M))
    (next : P) : Type 0 where
  pub input : Input
  pub word : Word
  pub wins : Bool
  pub commands : List Command
  pub told : input ≡ input_told e word
  pub moves : machine_outcome (m.node_of p) input wins ≡ NodeMoved commands (m.node_of next)
  pub deeds : map deed_in actions ≡ map deed_of_command commands

abbrev pub is_droppable : LinkConcern → Tie → Bool
is_droppable Elsewhere t = true
is_droppable HeardOnLink Connected = true
is_droppable HeardOnLink ConnectedOpen = true
is_droppable HeardOnLink AcceptedTie = true
is_droppable _ _ = false

-- a message on a connection that is held and made is dropped; which messages are is the peer's own, and no other event
-- is dropped
pub record DropsMessage {P M : Type 0} (m : Peers P M) (p : P) (e : Event M) (actions : List (Action M))
    (next : P) : Type 0 where
  pub on : Conn
  pub message : M
  pub arrived : e ≡ ArrivedEvent on message
  pub heard : (c : ℕ) → IsTrue (is_droppable (concern_by e (conn c)) (tie_of (m.node_of p) c))
  pub silent : actions ≡ []
  pub stays : m.node_of next ≡ m.node_of p

-- the machine refuses the event
pub record IsRefusedByMachine {P M : Type 0} (m : Peers P M) (p : P) (e : Event M) : Type 0 where
  pub word : Word
  pub wins : Bool
  pub refusal : Refusal
  pub refuses : machine_outcome (m.node_of p) (input_told e word) wins ≡ NodeRefused refusal

-- a peer declines only what the machine refuses, and any Submit: what its user may submit is its own
abbrev pub MayDecline : {P M : Type 0} → Peers P M → P → Event M → Type 0
MayDecline m p (SubmitEvent x) = ⊤
MayDecline m p e = IsRefusedByMachine m p e

abbrev pub FollowsMachine : {P M : Type 0} → Peers P M → P → Event M → Reply P M → Type 0
FollowsMachine m p e Declines = MayDecline m p e
FollowsMachine m p e (ActsBy actions next) = StepsAsMachine m p e actions next ⊎ DropsMessage m p e actions next

-- each reply is a step of the machine, or drops a message, or declines; and a restart leaves the peer Closed. It says
-- nothing of what is said and handed up, of who wins, or of the word that a message is taken for
pub record IsMachine {P M : Type 0} (m : Peers P M) : Type 0 where
  pub follows : (p : P) (e : Event M) → FollowsMachine m p e (m.reply p e)
  pub resets : (p : P) → m.node_of (m.reset p) ≡ closed_node
