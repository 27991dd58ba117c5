-- A Submit that is done is one Send, of its octets, on the open connection.
use Rattle.std.proofs.Common.{◌≡◌, ℕ, Bool, None, List, [], ◌∷◌, refl, sym, subst, ap, ◌∙◌}
use Rattle.dm_machine.specs.declared.connection.Conn.{Conn}
use Rattle.dm_machine.specs.declared.phase.Role.{Role}
use Rattle.dm_machine.specs.declared.phase.Role.TheVariants.{Initiated, Accepted}
use Rattle.dm_machine.specs.declared.inputs.Input.TheVariants as input
use Rattle.dm_machine.specs.declared.outputs.Command.TheVariants.{SendSubmit}
use Rattle.dm_machine.specs.Forms.{EachShapeIsAForm}
use Rattle.dm_machine.specs.Moves as moves
use Rattle.dm_machine.specs.Moves.{machine_outcome}
use Rattle.dm_machine.specs.Connection.{hold_of}
use Rattle.dm_machine.specs.Upward.{is_open_hold}
use Rattle.dm_peer.specs.declared.actions.Action.{Action}
use Rattle.dm_peer.specs.declared.actions.Action.TheVariants.{Send}
use Rattle.dm_peer.specs.declared.peer.Peer.{Peer}
use Rattle.dm_peer.specs.Events.{PeerEvent, Submit}
use Rattle.dm_peer.specs.Configs.{wins}
use Rattle.dm_peer.specs.Acts.{Moved, acts, outcome_of}
use Rattle.dm_peer.specs.Settled.{EachEventKeepsSettled}
use Rattle.dm_history.specs.InOrder.{EachSubmitIsSent, SendsIfSubmitted, EachRunSends}
use Rattle.dm_history.proofs.Turning.{turned_is}
use Rattle.dm_history.proofs.Submitting.{submit_steps}
use Rattle.dm_history.proofs.Replays.{settled_through, throughout}
use Rattle.dm_history.proofs.OpenNodes.{open_node, state_form, opens_itself}

-- the step of an open node at a Submit
submit_step : (role : Role) (c : Conn) (k : ℕ) (w : Bool) →
    machine_outcome (open_node role c k) input.Submit w ≡ moves.NodeMoved (SendSubmit c ∷ []) (open_node role c k)
submit_step Initiated c k w = refl
submit_step Accepted c k w = refl

same_actions : (a b : List Action) (p q : Peer) → Moved a p ≡ Moved b q → b ≡ a
same_actions a b p q e = cc e

pub submit_sent : EachShapeIsAForm → EachSubmitIsSent
submit_sent law p s actions next was is =
    let n = p.standing.core in
    let e = Submit s in
    let taken = submit_steps p s actions next is in
    let x = state_form n (law n was.shaped) taken.0 in
    let c = x.0 in
    let f = x.1 in
    let node = open_node f.role c f.count in
    let out = turned_is n input.Submit (wins p.config)
    ∙ (ap (λ m. machine_outcome m input.Submit (wins p.config)) f.is ∙ submit_step f.role c f.count (wins p.config)) in
    let all = sym (ap (outcome_of p e None) out) ∙ taken.1 in
    record {
      conn = c;
      opened = ap (λ m. is_open_hold (hold_of m c)) f.is ∙ opens_itself f.role c f.count;
      sent = same_actions (Send c s ∷ []) actions _ next all;
    }

pub run_sends : EachSubmitIsSent → EachEventKeepsSettled → EachRunSends
run_sends law kept first past p was lived =
    throughout SendsIfSubmitted first
    (λ older q e actions after before is s submitted.
    law q s actions after (settled_through kept first older q was before)
    (subst (λ (f : PeerEvent). acts q f ≡ Moved actions after) submitted is)) past p lived
