-- What is handed out is the first frame, where one stands at the front.
use Rattle.std.proofs.Common.{◌+◌, ◌-◌, ◌≡◌, ◌∙◌, ap, take, drop, arith}
use Rattle.dm_framer.proofs.Taking.{no_frame_missed, no_frame_yet, first_taken}
use Rattle.dm_framer.proofs.framer.Framer.next.Goals as goal

pub returns-in_err-message-in-Ok-Some-clause-none : goal.returns-in_err-message-in-Ok-Some-clause-none
returns-in_err-message-in-Ok-Some-clause-none c =
    let found = rw (c.in-Ok-Some.field-0-is, c.deref.ensures.value) at c.in-Ok-Some.ensures in
    λ rest h. absurd
    (no_frame_missed c.self.inside.buffer.items c.self.inside.taken c.in-Ok-Some.size _ _ _ c.self.view_is
    found.frame rest _ h)

pub returns-in_ok-message-in-Ok-Some-clause-none : goal.returns-in_ok-message-in-Ok-Some-clause-none
returns-in_ok-message-in-Ok-Some-clause-none c =
    let found = rw (c.in-Ok-Some.field-0-is, c.deref.ensures.value) at c.in-Ok-Some.ensures in
    λ rest h. absurd
    (no_frame_missed c.self.inside.buffer.items c.self.inside.taken c.in-Ok-Some.size _ _ _ c.self.view_is
    found.frame rest _ h)

pub returns-in-Ok-None-clause-frame : goal.returns-in-Ok-None-clause-frame
returns-in-Ok-None-clause-frame c =
    let found = rw (c.in-Ok-None.field-0-is, c.deref.ensures.value) at c.in-Ok-None.ensures in
    λ message frames rest fault h. absurd
    (no_frame_yet c.self.inside.buffer.items c.self.inside.taken _ _ _ c.self.view_is found.partial message frames
    rest fault h)

pub returns-in_ok-message-in-Ok-Some-clause-frame : goal.returns-in_ok-message-in-Ok-Some-clause-frame
returns-in_ok-message-in-Ok-Some-clause-frame c =
    let found = rw (c.in-Ok-Some.field-0-is, c.deref.ensures.value) at c.in-Ok-Some.ensures in
    let copied = rw (c.deref-in-Ok-Some.ensures.value) at c.in_ok-message-in-Ok-Some.ensures in
    let start = c.self.inside.taken in
    let cut : start + c.in-Ok-Some.size - start ≡ c.in-Ok-Some.size = omega arith in
    λ message frames rest fault h.
    let first = first_taken c.self.inside.buffer.items start c.in-Ok-Some.size _ _ _ c.self.view_is found.frame message
    frames rest fault h in
    (copied.items ∙ ap (λ n. take n (drop start c.self.inside.buffer.items)) cut ∙ first.0, first.1)
