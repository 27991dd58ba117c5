-- What is read is in the octets, and in octets that are refused there is nothing.
use Rattle.std.proofs.Math.Facts.{Fits-lt-pow}
use Rattle.dm_peer.proofs.Whole.{read_in, none_in}
use Rattle.dm_peer.proofs.message.read_message.Goals as goal

pub returns-in-Ok : goal.returns-in-Ok
returns-in-Ok c =
    let m = c.in-Ok.message in
    read_in c.message_in_octets_is_what_they_spell.ensures c.args.octets.now (λ i. Fits-lt-pow (c.type_inv.octets i)) m.header m.rest.now
    c.in-Ok.ensures.found

pub returns-in-Err : goal.returns-in-Err
returns-in-Err c =
    none_in c.message_in_octets_is_what_they_spell.ensures c.octets_of_messages_have_no_fault.ensures c.args.octets.now c.in-Err.field-0
    (λ i. Fits-lt-pow (c.type_inv.octets i)) c.in-Err.ensures.fault
