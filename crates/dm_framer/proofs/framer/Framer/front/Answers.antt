-- What is answered is the frame that stands at the front.
use Rattle.std.proofs.Common.{◌+◌, ◌-◌, ◌≡◌, arith}
use Rattle.dm_framer.proofs.Taking.{stands_in_front}
use Rattle.dm_framer.proofs.framer.Framer.front.Goals as goal

pub returns-in-Ok-Some-clause-frame : goal.returns-in-Ok-Some-clause-frame
returns-in-Ok-Some-clause-frame c =
    let found = rw (c.in-Ok-Some.field-0-is, c.deref.ensures.value) at c.in-Ok-Some.ensures in
    let start = c.self.inside.taken in
    let cut : start + c.in-Ok-Some.size - start ≡ c.in-Ok-Some.size = omega arith in
    let there = stands_in_front c.self.inside.buffer.items start c.in-Ok-Some.size _ _ _ c.self.view_is found.frame in
    rw (c.deref-in-Ok-Some.ensures.value, cut) there
