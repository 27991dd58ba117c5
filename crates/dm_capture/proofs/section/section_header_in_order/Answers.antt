-- The section's header is read at the front.
use Rattle.std.proofs.Common.{sym, ◌∙◌}
use Rattle.dm_capture.proofs.Taken.{section_taken, version_fault}
use Rattle.dm_capture.proofs.section.section_header_in_order.Goals as goal

pub returns-then-u16_at-ne1-clause-fault : goal.returns-then-u16_at-ne1-clause-fault
returns-then-u16_at-ne1-clause-fault c =
    let found = rw c.in-Ok-Some.field-0-is at c.in-Ok-Some.ensures in
    version_fault c.args.order c.in-Ok-Some.size c.args.octets.now c.if-size-lt-SECTION_LEN.false found.within
    c.requires.ordered found.size found.block (λ e. c.if-u16_at-ne1.true (c.u16_at.ensures ∙ e))

pub returns-else-u16_at-ne1-clause-item : goal.returns-else-u16_at-ne1-clause-item
returns-else-u16_at-ne1-clause-item c =
    let found = rw c.in-Ok-Some.field-0-is at c.in-Ok-Some.ensures in
    section_taken c.args.order c.in-Ok-Some.size c.args.octets.now c.if-size-lt-SECTION_LEN.false found.within
    c.requires.section c.requires.ordered found.block (sym c.u16_at.ensures ∙ c.if-u16_at-ne1.false)
