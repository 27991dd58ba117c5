-- Octets that are looked at go by the message that they spell, or by none.
use Rattle.std.proofs.Common.{◌≡◌, ◌∙◌, ℕ, ap, subst, List, Option, None, Some, IfOk, IfErr, false, if◌then◌else◌}
use Rattle.std.proofs.Math.Facts.{Fits-lt-pow}
use Rattle.dm_wire.specs.declared.avp.Avp.{Avp}
use Rattle.dm_wire.specs.declared.message.Message.{Message}
use Rattle.dm_wire.specs.Refusal.{Refuses}
use Rattle.dm_wire.specs.Spelling.{SpellsList, SpellsMessage}
use Rattle.dm_wire.specs.Whole.{message_in}
use Rattle.dm_machine.specs.Connection.{hold_of}
use Rattle.dm_machine.specs.declared.connection.Conn.{Conn}
use Rattle.dm_peer.specs.Acts.{acts, steps, heard_outcome, is_unread}
use Rattle.dm_peer.specs.Events.{Arrived}
use Rattle.dm_peer.specs.declared.peer.Peer.{Peer}
use Rattle.dm_peer.proofs.Whole.{message_with, read_in, none_in}
use Rattle.dm_peer.proofs.steps.handle_arrival.Goals as goal

goes_by : (p : Peer) (c : Conn) (s : List ℕ) (m : Option Message) →
    is_unread p.standing.core.state (hold_of p.standing.core c) ≡ false → message_in s ≡ m →
    acts p (Arrived c s) ≡ heard_outcome p (Arrived c s) c m
goes_by p c s m read is =
    ap (λ b. if b then steps p (Arrived c s) None else heard_outcome p (Arrived c s) c (message_in s)) read
    ∙ ap (heard_outcome p (Arrived c s) c) is

pub handle_message-requires-clause-goes : goal.handle_message-requires-clause-goes
handle_message-requires-clause-goes c =
    let p : Peer = c.args.peer.now in
    let s = c.args.octets.now in
    let m = c.in-Ok.message in
    let found = subst (λ r. IfOk r (λ read. (l : List Avp) × SpellsList l read.rest.now
    × SpellsMessage (message_with read.header l) s)) c.in-Ok.is c.read.ensures.found in
    let at = read_in c.message_in_octets_is_what_they_spell.ensures s (λ i. Fits-lt-pow (c.type_inv.octets i)) m.header m.rest.now found in
    let read : is_unread p.standing.core.state (hold_of p.standing.core c.args.conn) ≡ false =
    cc (
      c.leaves_octets_unread.ensures,
      c.if-leaves_octets_unread.ensures,
      c.connection_footing-footing.ensures,
      c.state.ensures.value,
      c.get.ensures.value,
    ) in
    (at.0, at.1, goes_by p c.args.conn s (Some (message_with m.header at.0)) read at.2)

pub step_peer-requires-in-Err-clause-goes : goal.step_peer-requires-in-Err-clause-goes
step_peer-requires-in-Err-clause-goes c =
    let p : Peer = c.args.peer.now in
    let s = c.args.octets.now in
    let refused = subst (λ r. IfErr r (Refuses s)) c.in-Err.is c.read.ensures.fault in
    let read : is_unread p.standing.core.state (hold_of p.standing.core c.args.conn) ≡ false =
    cc (
      c.leaves_octets_unread.ensures,
      c.if-leaves_octets_unread.ensures,
      c.connection_footing-footing.ensures,
      c.state.ensures.value,
      c.get.ensures.value,
    ) in
    goes_by p c.args.conn s None read (none_in c.message_in_octets_is_what_they_spell.ensures c.octets_of_messages_have_no_fault.ensures s
    c.in-Err.field-0 (λ i. Fits-lt-pow (c.type_inv.octets i)) refused)
