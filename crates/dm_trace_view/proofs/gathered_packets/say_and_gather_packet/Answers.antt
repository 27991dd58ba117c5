use Rattle.dm_trace_view.proofs.Saying.{handed_on, packet_told, packet_left}
use Rattle.dm_trace_view.proofs.gathered_packets.say_and_gather_packet.Goals as goal

pub returns-in_err-gather_text_and_write_if_full-clause-stopped :
    goal.returns-in_err-gather_text_and_write_if_full-clause-stopped
returns-in_err-gather_text_and_write_if_full-clause-stopped g c =
    handed_on _ _ c.in_err-gather_text_and_write_if_full.field-0.0
    c.from_residual-in_err-gather_text_and_write_if_full.ensures.1
    (packet_left _ _ _ _ _ _ _ _ _ _ _ _ _ c.in_ok-say_packet.ensures.said c.clear.ensures.bytes
    c.as_bytes.ensures.value c.in_err-gather_text_and_write_if_full.ensures.fault
    c.in_err-gather_text_and_write_if_full.ensures.stopped)

pub returns-clause-told : goal.returns-clause-told
returns-clause-told g c =
    packet_told _ _ _ _ _ _ _ _ _ _ _ _ c.in_ok-say_packet.ensures.said c.clear.ensures.bytes
    c.as_bytes.ensures.value c.in_ok-gather_text_and_write_if_full.ensures.gathered
