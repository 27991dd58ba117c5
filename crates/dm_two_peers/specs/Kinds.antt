-- The state machine itself as peers: a message is its word, and a peer knows whether it wins. It shows that peers as
-- the laws ask for them exist, and what the definitions say of two runs.
use Rattle.std.specs.Prelude.{◌≡◌, Bool, true, false, IfSome, List, [], ◌∷◌, map}
use Rattle.dm_two_peers.specs.Machine.{conn, Initiated, Accepted, Node, node_at}
use Rattle.dm_two_peers.specs.Machine.{Input, Command, machine_outcome, closed_node}
use Rattle.dm_machine.specs.declared.inputs.Word.{Word}
use Rattle.dm_machine.specs.declared.inputs.Word.TheVariants.{Cer, Cea, CeaFailed, Dwr, Dwa, Dpr, Dpa, Other}
use Rattle.dm_machine.specs.declared.inputs.Input.TheVariants as input
use Rattle.dm_machine.specs.declared.outputs.Command.TheVariants as command
use Rattle.dm_machine.specs.declared.state_name.State.TheVariants.{IOpen, ROpen}
use Rattle.dm_machine.specs.Moves.{NodeOutcome, NodeMoved, NodeRefused}
use Rattle.dm_two_peers.specs.Links.{A, B}
use Rattle.dm_two_peers.specs.Peers.{Event, StartEvent, StopEvent, TimeoutEvent, TickEvent, AckEvent}
use Rattle.dm_two_peers.specs.Peers.{NackEvent, GoneEvent, SubmitEvent, ArrivedEvent, Action, Connect}
use Rattle.dm_two_peers.specs.Peers.{Send, Close, Reply, ActsBy, Declines, Peers}
use Rattle.dm_two_peers.specs.Peers as peers
use Rattle.dm_two_peers.specs.Happens.{Happening, Starts, Acks, Delivers, run}
use Rattle.dm_two_peers.specs.Follows.{IsMachine}
use Rattle.dm_two_peers.specs.Laws.{world_of}

pub record KindPeer : Type 0 where
  pub node : Node
  pub wins : Bool

abbrev pub peer_of_kind : Bool → Node → KindPeer
peer_of_kind wins n = record { node = n; wins = wins }

abbrev pub kind_input : Event Word → Input
kind_input (StartEvent c) = input.Start c
kind_input (StopEvent cause) = input.Stop
kind_input TimeoutEvent = input.Timeout
kind_input TickEvent = input.Tick
kind_input (AckEvent c) = input.Ack c
kind_input (NackEvent c) = input.Nack c
kind_input (GoneEvent c) = input.Gone c
kind_input (SubmitEvent w) = input.Submit
kind_input (ArrivedEvent c w) = input.Heard c w

abbrev pub kind_action : Command → Action Word
kind_action (command.Connect c) = Connect c
kind_action (command.SendCer c) = Send c Cer
kind_action (command.SendCea c) = Send c Cea
kind_action (command.SendRefusal c) = Send c CeaFailed
kind_action (command.SendDwr c) = Send c Dwr
kind_action (command.SendDwa c) = Send c Dwa
kind_action (command.SendDpr c) = Send c Dpr
kind_action (command.SendDpa c) = Send c Dpa
kind_action (command.SendSubmit c) = Send c Other
kind_action (command.Close c) = Close c
kind_action command.Up = peers.HandUp Other

abbrev pub reply_by : Bool → NodeOutcome → Reply KindPeer Word
reply_by wins (NodeMoved commands n) = ActsBy (map kind_action commands) (peer_of_kind wins n)
reply_by wins (NodeRefused r) = Declines

abbrev pub kinds : Peers KindPeer Word
kinds =
    record {
      node_of = λ p. p.node;
      reply = λ p e. reply_by p.wins (machine_outcome p.node (kind_input e) p.wins);
      reset = λ p. peer_of_kind p.wins closed_node;
      size = λ w. 1;
    }

abbrev pub KindsAreAMachine : Type 0
KindsAreAMachine = IsMachine kinds

-- one side starts; both start, and A wins
abbrev pub one_starts : {M : Type 0} → List (Happening M)
one_starts = Starts A ∷ Acks 0 ∷ Delivers 0 B ∷ Delivers 0 A ∷ []

abbrev pub both_start : {M : Type 0} → List (Happening M)
both_start = Starts A ∷ Starts B ∷ Acks 0 ∷ Acks 1 ∷ Delivers 0 B ∷ Delivers 1 A ∷ Delivers 1 B ∷ Delivers 0
    B ∷ Delivers 0 A ∷ []

pub record TwoRuns : Type 0 where
  pub one_side : IfSome (run kinds (world_of (peer_of_kind false closed_node) (peer_of_kind true closed_node))
      one_starts)
      (λ r. (r.world.a.node ≡ node_at IOpen ((Initiated, conn 0) ∷ []) 0) × (r.world.b.node ≡ node_at ROpen
      ((Accepted, conn 0) ∷ []) 0))
  pub both_sides : IfSome (run kinds (world_of (peer_of_kind true closed_node) (peer_of_kind false closed_node))
      both_start)
      (λ r. (r.world.a.node ≡ node_at ROpen ((Accepted, conn 1) ∷ []) 0) × (r.world.b.node ≡ node_at IOpen
      ((Initiated, conn 1) ∷ []) 0))
