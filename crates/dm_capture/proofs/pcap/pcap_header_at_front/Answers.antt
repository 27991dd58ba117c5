-- The header is read at the front.
use Rattle.std.proofs.Common.{◌%◌, sym, ◌∙◌, ap, arith}
use Rattle.dm_capture.proofs.Taken.{form_taken}
use Rattle.dm_capture.proofs.pcap.pcap_header_at_front.Goals as goal

pub returns-clause-item : goal.returns-clause-item
returns-clause-item c =
    form_taken c.args.order c.args.resolution (c.u32_at.result % 65536) c.args.octets.now (omega arith) c.requires.other
    c.requires.magic
    (sym c.u16_at.ensures ∙ c.if-u16_at-ne2.false) (ap (λ n. n % 65536) c.u32_at.ensures)
