use Rattle.std.proofs.Common.{refl}
use Rattle.dm_trace_view.proofs.trace_speaker.TraceSpeaker.say_sctp_packet.Goals as goal

pub returns : goal.returns
returns c =
    let sent = rw c.packet_context-hearing.ensures at c.in_ok-self.ensures in
    (sent.0, sent.1, record { sent = sent.2; rest = refl })
