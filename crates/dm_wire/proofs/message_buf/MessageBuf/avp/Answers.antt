-- It is looked for at the places of all AVPs.
use Rattle.std.proofs.Common.{◌∙◌, ap}
use Rattle.std.specs.List.{find}
use Rattle.std.proofs.lemmas.List.{take_rest}
use Rattle.dm_wire.specs.Finding.{is_of}
use Rattle.dm_wire.proofs.Holding.{held_avps}
use Rattle.dm_wire.proofs.message_buf.MessageBuf.avp.Goals as goal

pub returns : goal.returns
returns c = λ m sp.
    let held = c.self.invariant in
    let octets = c.self.inside.octets.items in
    rw (c.deref.ensures.value, take_rest octets 20, c.as_slice.ensures.value) at c.first_matching_avp.ensures held.avps held.placed
    ∙ ap (find (is_of c.args.code c.args.vendor))
    (held_avps c.self.inside.header octets c.self.inside.places.items held m (rw (c.self.view_is) sp))
