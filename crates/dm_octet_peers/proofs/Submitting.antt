-- A Submit is sent as it is, on the connection on which the peer is open.
use Rattle.std.proofs.Common.{◌≡◌, ℕ, Bool, true, false, if◌then◌else◌, None, List, [], ◌∷◌, refl, sym, ap, subst, ◌∙◌, arith}
use Rattle.std.specs.Prelude.{⊤}
use Rattle.std.proofs.lemmas.Bool.Decides.{nat_tests}
use Rattle.dm_wire.specs.Whole.{message_in}
use Rattle.dm_machine.specs.declared.connection.Conn.{Conn}
use Rattle.dm_machine.specs.declared.inputs.Input.TheVariants as input
use Rattle.dm_machine.specs.declared.outputs.Command.{Command}
use Rattle.dm_machine.specs.declared.outputs.Command.TheVariants as command
use Rattle.dm_machine.specs.Node.{Node, is_shaped}
use Rattle.dm_machine.specs.Forms.{Form, EachShapeIsAForm, closed, wait_conn_ack, wait_i_cea, wait_conn_ack_elect, wait_returns, r_open, i_open, closing}
use Rattle.dm_machine.specs.Connection.{hold_of}
use Rattle.dm_machine.specs.Moves as moves
use Rattle.dm_machine.specs.Moves.{is_open, machine_outcome}
use Rattle.dm_peer.specs.declared.peer.Peer.{Peer}
use Rattle.dm_peer.specs.declared.fault.PeerFault.TheVariants.{NotOpen, BadSubmit}
use Rattle.dm_peer.specs.Events as told
use Rattle.dm_peer.specs.Configs.{wins}
use Rattle.dm_peer.specs.Sent.{actions_of}
use Rattle.dm_peer.specs.Acts.{Refused, turned, outcome_of, steps, can_submit}
use Rattle.dm_two_peers.specs.Peers.{Action, ActsBy, SubmitEvent}
use Rattle.dm_two_peers.specs.Delivery.{SendsSubmitted}
use Rattle.dm_machine.specs.Upward.{is_open_hold}
use Rattle.dm_octet_peers.specs.Octets.{as_actions, as_reply, octet_peers}
use Rattle.dm_octet_peers.specs.Carrying.{is_app}
use Rattle.dm_octet_peers.proofs.Replying.{turned_is}

record Sends (n : Node) (commands : List Command) : Type 0 where
  pub on : Conn
  pub is : commands ≡ command.SendSubmit on ∷ []
  pub opened : is_open_hold (hold_of n on) ≡ true

abbrev SendsAt : Node → moves.NodeOutcome → Type 0
SendsAt n (moves.NodeMoved commands next) = Sends n commands
SendsAt n (moves.NodeRefused r) = ⊤

by_form : (n : Node) → Form n → (w : Bool) → is_open n.state ≡ true → SendsAt n (machine_outcome n input.Submit w)
by_form n closed w h = cc
by_form n (wait_conn_ack i) w h = cc
by_form n (wait_i_cea i) w h = cc
by_form n (wait_conn_ack_elect i r e) w h = cc
by_form n (wait_returns i r e) w h = cc
by_form n (r_open r k few) w h = record { on = r; is = refl; opened = grind (arith, nat_tests) }
by_form n (i_open i k few) w h = record { on = i; is = refl; opened = grind (arith, nat_tests) }
by_form n (closing role x) w h = cc

by_outcome : (p next : Peer) (x : List ℕ) (actions : List (Action (List ℕ))) (o : moves.NodeOutcome) →
    SendsAt p.standing.core o → is_app x ≡ true →
    as_reply (outcome_of p (told.Submit x) None o) ≡ ActsBy actions next →
    SendsSubmitted is_app p.standing.core x actions
by_outcome p next x actions (moves.NodeMoved commands core) sends app is =
    let e : told.PeerEvent = told.Submit x in
    let same : as_actions (actions_of p e None commands) ≡ actions = cc in
    record {
      link = sends.on.0;
      sends = sym same ∙ ap (λ cs. as_actions (actions_of p e None cs)) sends.is;
      opened = sends.opened;
      app = app;
    }
by_outcome p next x actions (moves.NodeRefused r) sends app is = cc

by_tests : (p next : Peer) (x : List ℕ) (actions : List (Action (List ℕ))) (b can : Bool) →
    (b ≡ true → SendsAt p.standing.core (turned p.standing.core input.Submit (wins p.config))) →
    (can ≡ true → is_app x ≡ true) →
    as_reply (if b then (if can then steps p (told.Submit x) None else Refused BadSubmit) else Refused NotOpen)
    ≡ ActsBy actions next → SendsSubmitted is_app p.standing.core x actions
by_tests p next x actions true true sends app is =
    by_outcome p next x actions (turned p.standing.core input.Submit (wins p.config)) (sends refl) (app refl) is
by_tests p next x actions true false sends app is = cc
by_tests p next x actions false can sends app is = cc

pub octets_submit : EachShapeIsAForm → (p next : Peer) (x : List ℕ) (actions : List (Action (List ℕ))) →
    is_shaped (octet_peers.node_of p) ≡ true → octet_peers.reply p (SubmitEvent x) ≡ ActsBy actions next →
    SendsSubmitted is_app (octet_peers.node_of p) x actions
octets_submit form p next x actions shaped is =
    let n = p.standing.core in
    let w = wins p.config in
    by_tests p next x actions (is_open n.state) (can_submit (message_in x))
    (λ h. subst (λ o. SendsAt n o) (sym (turned_is n input.Submit w)) (by_form n (form n shaped) w h)) (λ h. h) is
