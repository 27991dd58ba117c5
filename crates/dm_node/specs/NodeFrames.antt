-- What is told of a stream is its frames, in order, each by one turn (RFC 6733, 3).
use Rattle.std.specs.Prelude.{◌≡◌, ℕ, true, false, Option, None, Some, List, [], ◌∷◌}
use Rattle.dm_base.specs.declared.node.Node.{Node}
use Rattle.dm_framer.specs.declared.fault.FrameFault.{FrameFault}
use Rattle.dm_framer.specs.Frames.{Framed}
use Rattle.dm_machine.specs.declared.connection.Conn.{Conn}
use Rattle.dm_peer.specs.declared.peer.Peer.{Peer}
use Rattle.dm_slots.specs.Intakes.{new_intake, actions_close}
use Rattle.dm_node.specs.NodeStates.{NodeState, NodeAnswer, NodeTurn, NodeIsOut, node_fed}
use Rattle.dm_node.specs.NodeStreams.{NodeTellsAlong}
use Rattle.dm_node.specs.Policies.{Policy}
use Rattle.dm_node.specs.Strangers.{NodeMoves}

-- octets of connection c lead the neighbours from ps to qs, and this is what they ask for
abbrev pub OctetsLead : Policy → Node → Conn → List ℕ → List (Option Peer) → NodeAnswer → List (Option Peer) → Type 0
OctetsLead policy n c octets ps answer qs = NodeMoves policy c octets n ps answer.neighbour answer.actions qs

-- These frames on connection c, and behind them a fault, are told turn by turn, each to the neighbours as the turn
-- before left them: with no frame left, the fault if there is one; else the first frame, and then those behind it,
-- unless its turn closes the connection.
pub data FramesAreTold (policy : Policy) (n : Node) (c : Conn) :
    List (List ℕ) → Option FrameFault → List (Option Peer) → List NodeTurn → List (Option Peer) → Type 0 where
  nothing_left : (ps : List (Option Peer)) → FramesAreTold policy n c [] None ps [] ps
  fault_told : (fault : FrameFault) (ps qs : List (Option Peer)) (turn : NodeTurn) →
      turn.arrived ≡ None → OctetsLead policy n c [] ps turn.answer qs →
      FramesAreTold policy n c [] (Some fault) ps (turn ∷ []) qs
  frame_closed : (frame : List ℕ) (frames : List (List ℕ)) (fault : Option FrameFault) (ps qs : List (Option Peer))
      (turn : NodeTurn) → turn.arrived ≡ Some c → OctetsLead policy n c frame ps turn.answer qs →
      actions_close turn.answer.actions c.0 ≡ true → FramesAreTold policy n c (frame ∷ frames) fault ps (turn ∷ []) qs
  frame_told : (frame : List ℕ) (frames : List (List ℕ)) (fault : Option FrameFault)
      (ps ms qs : List (Option Peer)) (turn : NodeTurn) (turns : List NodeTurn) → turn.arrived ≡ Some c →
      OctetsLead policy n c frame ps turn.answer ms → actions_close turn.answer.actions c.0 ≡ false →
      FramesAreTold policy n c frames fault ms turns qs →
      FramesAreTold policy n c (frame ∷ frames) fault ps (turn ∷ turns) qs

-- A connection on which nothing is kept takes messages as long as behind the capabilities exchange. Then of what comes
-- on it, told until nothing is left, the turns are its frames and its fault.
abbrev pub StreamsAreToldByFrames : Type 0
StreamsAreToldByFrames =
    (policy : Policy) (c : Conn) (stream rest : List ℕ) (frames : List (List ℕ)) (fault : Option FrameFault)
    (s t : NodeState) (turns : List NodeTurn) → s.intakes c.0 ≡ Some (new_intake s.most)
    → Framed s.most stream frames rest fault → NodeTellsAlong policy c (node_fed c stream s) turns t → NodeIsOut c t
    → FramesAreTold policy s.node c frames fault s.peers turns t.peers
