-- What a peer does under other numbers of connections.
use Rattle.std.proofs.Common.{◌≡◌, ℕ, Bool, true, false, ◌&&◌, Option, Some, None, List, [], ◌∷◌, if◌then◌else◌, refl, sym, ap, ◌∙◌}
use Rattle.dm_wire.specs.declared.message.Message.{Message}
use Rattle.dm_wire.specs.Whole.{message_in}
use Rattle.dm_base.specs.declared.kind.Cause.{Cause}
use Rattle.dm_machine.specs.declared.connection.Conn.{Conn}
use Rattle.dm_machine.specs.declared.inputs.Input.{Input}
use Rattle.dm_machine.specs.declared.outputs.Command.{Command}
use Rattle.dm_machine.specs.declared.outputs.Command.TheVariants as command
use Rattle.dm_machine.specs.Node.{Node}
use Rattle.dm_machine.specs.Connection.{Hold, hold_of}
use Rattle.dm_machine.specs.Moves.{machine_outcome, is_open}
use Rattle.dm_machine.specs.Moves as moves
use Rattle.dm_peer.specs.declared.actions.Action.{Action}
use Rattle.dm_peer.specs.declared.fault.PeerFault.TheVariants.{NotOpen, BadSubmit}
use Rattle.dm_peer.specs.declared.peer.Peer.{Peer}
use Rattle.dm_peer.specs.Events.{PeerEvent, Start, Stop, Timeout, Tick, Ack, Nack, Arrived, Gone, Submit, octets_in, cause_in}
use Rattle.dm_peer.specs.Configs.{wins}
use Rattle.dm_peer.specs.Said.{Heard, heard_in}
use Rattle.dm_peer.specs.Sent.{action_of, actions_of}
use Rattle.dm_peer.specs.After.{first_of, request_of, request_in, standing_after}
use Rattle.dm_peer.specs.Acts.{Outcome, Moved, Refused, turned, input_of, outcome_of, standing_at, steps, is_unread, is_made, is_unawaited, is_dropped, heard_outcome, can_submit, submitted, acts}
use Rattle.dm_two_nodes.specs.Numbering.{IsOneToOne, renumbered, renumbered_node, renumbered_input, renumbered_command, renumbered_commands, renumbered_outcome, StepsGoByNoNumber}
use Rattle.dm_two_nodes.specs.Renaming.{renumbered_event, renumbered_action, renumbered_actions, renumbered_standing, renumbered_peer, renumbered_acts, PeersGoByNoNumber}
use Rattle.dm_two_nodes.proofs.Numbered.{hold_of-renumbered}

pub turned_is : (n : Node) (i : Input) (w : Bool) → turned n i w ≡ machine_outcome n i w
unfolding turned
turned_is n i w = refl

module _ (f : ℕ → ℕ) where
  octets_same : (e : PeerEvent) → octets_in (renumbered_event f e) ≡ octets_in e
  octets_same (Arrived c s) = refl
  octets_same (Submit s) = refl
  octets_same _ = refl

  cause_same : (e : PeerEvent) → cause_in (renumbered_event f e) ≡ cause_in e
  cause_same (Stop cause) = refl
  cause_same _ = refl

  input_same : (e : PeerEvent) (h : Option Heard) →
      input_of (renumbered_event f e) h ≡ renumbered_input f (input_of e h)
  input_same (Start c) h = refl
  input_same (Stop cause) h = refl
  input_same Timeout h = refl
  input_same Tick h = refl
  input_same (Ack c) h = refl
  input_same (Nack c) h = refl
  input_same (Arrived c s) h = refl
  input_same (Gone c) h = refl
  input_same (Submit s) h = refl

  action_same : (p : Peer) (e : PeerEvent) (h : Option Heard) (c : Command) →
      action_of (renumbered_peer f p) (renumbered_event f e) h (renumbered_command f c)
      ≡ renumbered_action f (action_of p e h c)
  action_same p e h (command.SendDpr c) =
      ap (λ (cause : Cause). action_of p (Stop cause) h (command.SendDpr (renumbered f c))) (cause_same e)
  action_same p e h (command.SendSubmit c) =
      ap (λ (s : List ℕ). action_of p (Submit s) h (command.SendSubmit (renumbered f c))) (octets_same e)
  action_same p e h command.Up = ap (λ (s : List ℕ). action_of p (Submit s) h command.Up) (octets_same e)
  action_same p e h (command.Connect c) = refl
  action_same p e h (command.SendCer c) = refl
  action_same p e h (command.SendCea c) = refl
  action_same p e h (command.SendRefusal c) = refl
  action_same p e h (command.SendDwr c) = refl
  action_same p e h (command.SendDwa c) = refl
  action_same p e h (command.SendDpa c) = refl
  action_same p e h (command.Close c) = refl

  actions_same : (p : Peer) (e : PeerEvent) (h : Option Heard) (commands : List Command) →
      actions_of (renumbered_peer f p) (renumbered_event f e) h (renumbered_commands f commands)
      ≡ renumbered_actions f (actions_of p e h commands)
  actions_same p e h [] = refl
  actions_same p e h (c ∷ more) =
      ap (λ (a : Action). a ∷ actions_of (renumbered_peer f p) (renumbered_event f e) h (renumbered_commands f more))
      (action_same p e h c)
      ∙ ap (λ (l : List Action). renumbered_action f (action_of p e h c) ∷ l) (actions_same p e h more)

  request_same : (c : Command) → request_of (renumbered_command f c) ≡ request_of c
  request_same (command.SendCer c) = refl
  request_same (command.SendDwr c) = refl
  request_same (command.SendDpr c) = refl
  request_same (command.Connect c) = refl
  request_same (command.SendCea c) = refl
  request_same (command.SendRefusal c) = refl
  request_same (command.SendDwa c) = refl
  request_same (command.SendDpa c) = refl
  request_same (command.SendSubmit c) = refl
  request_same (command.Close c) = refl
  request_same command.Up = refl

  requests_same : (commands : List Command) → request_in (renumbered_commands f commands) ≡ request_in commands
  requests_same [] = refl
  requests_same (c ∷ more) =
      ap (λ r. first_of r (request_in (renumbered_commands f more))) (request_same c)
      ∙ ap (λ r. first_of (request_of c) r) (requests_same more)

  outcome_same : (p : Peer) (e : PeerEvent) (h : Option Heard) (o : moves.NodeOutcome) →
      outcome_of (renumbered_peer f p) (renumbered_event f e) h (renumbered_outcome f o)
      ≡ renumbered_acts f (outcome_of p e h o)
  outcome_same p e h (moves.NodeRefused r) = refl
  outcome_same p e h (moves.NodeMoved commands core) =
      ap (λ (l : List Action). Moved l (standing_at (renumbered_peer f p)
      (standing_after (renumbered_standing f p.standing) h (request_in (renumbered_commands f commands))
      (renumbered_node f core)))) (actions_same p e h commands)
      ∙ ap (λ r. Moved (renumbered_actions f (actions_of p e h commands))
      (standing_at (renumbered_peer f p)
      (standing_after (renumbered_standing f p.standing) h r (renumbered_node f core)))) (requests_same commands)

  if_same : (b : Bool) (x y x' y' : Outcome) → x ≡ renumbered_acts f x' → y ≡ renumbered_acts f y' →
      (if b then x else y) ≡ renumbered_acts f (if b then x' else y')
  if_same true x y x' y' e d = e
  if_same false x y x' y' e d = d

module _ (law : StepsGoByNoNumber) (f : ℕ → ℕ) (one : IsOneToOne f) where
  turned_same : (n : Node) (i : Input) (w : Bool) →
      turned (renumbered_node f n) (renumbered_input f i) w ≡ renumbered_outcome f (turned n i w)
  turned_same n i w =
      turned_is (renumbered_node f n) (renumbered_input f i) w ∙ law f n i w one
      ∙ ap (renumbered_outcome f) (sym (turned_is n i w))

  steps_same : (p : Peer) (e : PeerEvent) (h : Option Heard) →
      steps (renumbered_peer f p) (renumbered_event f e) h ≡ renumbered_acts f (steps p e h)
  steps_same p e h =
      let n = p.standing.core in
      let w = wins p.config in
      ap (λ (i : Input). outcome_of (renumbered_peer f p) (renumbered_event f e) h (turned (renumbered_node f n) i w))
      (input_same f e h)
      ∙ ap (outcome_of (renumbered_peer f p) (renumbered_event f e) h) (turned_same n (input_of e h) w)
      ∙ outcome_same f p e h (turned n (input_of e h) w)

  heard_same : (p : Peer) (c : Conn) (s : List ℕ) (o : Option Message) →
      heard_outcome (renumbered_peer f p) (Arrived (renumbered f c) s) (renumbered f c) o
      ≡ renumbered_acts f (heard_outcome p (Arrived c s) c o)
  heard_same p c s None = steps_same p (Arrived c s) None
  heard_same p c s (Some m) =
      ap (λ (hold : Hold). if is_made hold && is_unawaited p.standing.awaited m.header then Moved [] (renumbered_peer f p)
      else steps (renumbered_peer f p) (Arrived (renumbered f c) s) (Some (heard_in p.config m)))
      (hold_of-renumbered f one p.standing.core c)
      ∙ if_same f (is_dropped p c m.header) (Moved [] (renumbered_peer f p))
      (steps (renumbered_peer f p) (Arrived (renumbered f c) s) (Some (heard_in p.config m))) (Moved [] p)
      (steps p (Arrived c s) (Some (heard_in p.config m))) refl
      (steps_same p (Arrived c s) (Some (heard_in p.config m)))

  arrived_same : (p : Peer) (c : Conn) (s : List ℕ) (o : Option Message) →
      (if is_unread p.standing.core.state (hold_of (renumbered_node f p.standing.core) (renumbered f c))
      then steps (renumbered_peer f p) (Arrived (renumbered f c) s) None
      else heard_outcome (renumbered_peer f p) (Arrived (renumbered f c) s) (renumbered f c) o)
      ≡ renumbered_acts f (if is_unread p.standing.core.state (hold_of p.standing.core c)
      then steps p (Arrived c s) None else heard_outcome p (Arrived c s) c o)
  arrived_same p c s o =
      ap (λ (hold : Hold). if is_unread p.standing.core.state hold
      then steps (renumbered_peer f p) (Arrived (renumbered f c) s) None
      else heard_outcome (renumbered_peer f p) (Arrived (renumbered f c) s) (renumbered f c) o)
      (hold_of-renumbered f one p.standing.core c)
      ∙ if_same f (is_unread p.standing.core.state (hold_of p.standing.core c))
      (steps (renumbered_peer f p) (Arrived (renumbered f c) s) None)
      (heard_outcome (renumbered_peer f p) (Arrived (renumbered f c) s) (renumbered f c) o)
      (steps p (Arrived c s) None) (heard_outcome p (Arrived c s) c o)
      (steps_same p (Arrived c s) None) (heard_same p c s o)

  submitted_same : (p : Peer) (s : List ℕ) (o : Option Message) →
      submitted (renumbered_peer f p) (Submit s) o ≡ renumbered_acts f (submitted p (Submit s) o)
  submitted_same p s o =
      if_same f (can_submit o) (steps (renumbered_peer f p) (Submit s) None) (Refused BadSubmit)
      (steps p (Submit s) None) (Refused BadSubmit) (steps_same p (Submit s) None) refl

  acts_same : (p : Peer) (e : PeerEvent) →
      acts (renumbered_peer f p) (renumbered_event f e) ≡ renumbered_acts f (acts p e)
  acts_same p (Arrived c s) = arrived_same p c s (message_in s)
  acts_same p (Submit s) =
      if_same f (is_open p.standing.core.state) (submitted (renumbered_peer f p) (Submit s) (message_in s))
      (Refused NotOpen) (submitted p (Submit s) (message_in s)) (Refused NotOpen)
      (submitted_same p s (message_in s)) refl
  acts_same p (Start c) = steps_same p (Start c) None
  acts_same p (Stop cause) = steps_same p (Stop cause) None
  acts_same p Timeout = steps_same p Timeout None
  acts_same p Tick = steps_same p Tick None
  acts_same p (Ack c) = steps_same p (Ack c) None
  acts_same p (Nack c) = steps_same p (Nack c) None
  acts_same p (Gone c) = steps_same p (Gone c) None

pub peers_go_by_no_number : StepsGoByNoNumber → PeersGoByNoNumber
peers_go_by_no_number law f p e one = acts_same law f one p e
