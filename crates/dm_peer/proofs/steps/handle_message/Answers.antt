-- What goes on is what isn't dropped.
use Rattle.std.proofs.Common.{◌≡◌, ◌∙◌, ap, sym, false, Some, [], if◌then◌else◌}
use Rattle.dm_wire.specs.declared.message.Message.{Message}
use Rattle.dm_peer.specs.Acts.{Moved, steps, is_dropped}
use Rattle.dm_peer.specs.Events.{event_told}
use Rattle.dm_peer.specs.Said.{heard_in}
use Rattle.dm_peer.specs.declared.peer.Peer.{Peer}
use Rattle.dm_peer.proofs.steps.handle_message.Goals as goal

pub step_peer-requires-clause-goes : goal.step_peer-requires-clause-goes
step_peer-requires-clause-goes c =
    let goes = c.requires.goes in
    let p : Peer = c.args.peer.now in
    let e = event_told c.args.event in
    let m : Message = record { header = c.args.message.now.header; avps = goes.0 } in
    let stays : is_dropped p c.args.conn m.header ≡ false =
    cc (c.is_answer_dropped.ensures, c.if-is_answer_dropped.ensures, c.requires.footing) in
    goes.2
    ∙ ap (λ b. if b then Moved [] p else steps p e (Some (heard_in p.config m))) stays
    ∙ ap (λ h. steps p e (Some h)) (sym (c.hear_message.ensures goes.0 goes.1))
