-- There are as many places as AVPs.
use Rattle.std.proofs.Common.{◌≡◌, ◌∙◌, ap, length, rules}
use Rattle.dm_wire.proofs.Holding.{held_avps}
use Rattle.dm_wire.proofs.message_buf.MessageBuf.len.Goals as goal

pub returns : goal.returns
returns c = λ m sp.
    let held = c.self.invariant in
    let n : c.len.result ≡ length c.self.inside.places.items = search rules in
    n ∙ held.placed.each_has_one ∙
    ap length (held_avps c.self.inside.header c.self.inside.octets.items c.self.inside.places.items held m
    (rw (c.self.view_is) sp))
