-- What is taken away is the frame that stands at the front.
use Rattle.dm_framer.proofs.Taking.{rest_is_left, none_in_front}
use Rattle.dm_framer.proofs.framer.Framer.skip.Goals as goal

pub returns-in-Ok-Some-clause-frame : goal.returns-in-Ok-Some-clause-frame
returns-in-Ok-Some-clause-frame c =
    let found = rw (c.in-Ok-Some.field-0-is, c.deref.ensures.value) at c.in-Ok-Some.ensures in
    rest_is_left c.self.inside.buffer.items c.self.inside.taken c.in-Ok-Some.size _ _ _ c.self.view_is found.frame

pub returns-in-Ok-Some-clause-none : goal.returns-in-Ok-Some-clause-none
returns-in-Ok-Some-clause-none c =
    let found = rw (c.in-Ok-Some.field-0-is, c.deref.ensures.value) at c.in-Ok-Some.ensures in
    λ none. absurd
    (none_in_front c.self.inside.buffer.items c.self.inside.taken c.in-Ok-Some.size _ _ _ c.self.view_is found.frame
    none)
