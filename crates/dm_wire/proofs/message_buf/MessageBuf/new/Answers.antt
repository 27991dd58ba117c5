-- What was read is held, with the places of its AVPs.
use Rattle.std.proofs.lemmas.List.{take_rest}
use Rattle.dm_wire.proofs.Holding.{held_so}
use Rattle.dm_wire.proofs.Messages.{no_refusal}
use Rattle.dm_wire.proofs.message_buf.MessageBuf.new.Goals as goal

pub invariant_of-result : goal.invariant_of-result
invariant_of-result c =
    held_so c.in-Ok.message.header c.args.octets.items c.in-Ok.message.rest.now c.in-Ok-avp_places.places.items
    (rw c.as_slice.ensures.value at c.in-Ok.ensures.rest) (rw c.as_slice.ensures.value at c.in-Ok.ensures.found)
    (rw (c.deref.ensures.value, take_rest c.args.octets.items 20) at c.in-Ok-avp_places.ensures)

pub returns-in-Err-clause-only : goal.returns-in-Err-clause-only
returns-in-Err-clause-only c = λ m sp.
    absurd (no_refusal m c.args.octets.items c.in-Err.fault sp
    (rw c.as_slice.ensures.value at c.in-Err.ensures.fault))
