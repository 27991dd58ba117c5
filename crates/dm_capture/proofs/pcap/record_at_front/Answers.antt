-- The record is read at the front.
use Rattle.std.proofs.Common.{arith}
use Rattle.dm_capture.proofs.Taken.{record_taken}
use Rattle.dm_capture.proofs.pcap.record_at_front.Goals as goal

pub returns-clause-item : goal.returns-clause-item
returns-clause-item c =
    record_taken c.args.form c.u32_at-captured.result c.args.octets.now c.read_pcap_record-record.result
    c.u32_at-captured.ensures (omega arith) (omega arith) c.read_pcap_record-record.ensures
