use Rattle.std.proofs.Common.{sym, ◌∙◌}
use Rattle.dm_capture.specs.Packets.{captured_of}
use Rattle.dm_trace_view.proofs.Carrying.{packet_other, packet_passed}
use Rattle.dm_trace_view.proofs.trace_speaker.TraceSpeakerPacketSpeaker.say_packet.Goals as goal

pub returns-in-Err : goal.returns-in-Err
returns-in-Err c =
    let none = rw c.as_slice.ensures.value at c.in-Err.ensures.none in
    record {
      said = packet_other c.args.task c.args.dictionary.now c.args.self.now (captured_of c.args.packet.now) c.in-Err.why
          c.first_known_time-self.result c.say_sctp_or_count.result c.say_sctp_or_count.new.self _ _
          c.first_known_time-self.ensures none
          (sym c.is_other_protocol.ensures ∙ c.if-is_other_protocol.true) c.say_sctp_or_count.ensures;
    }

pub returns-in-Err-2 : goal.returns-in-Err-2
returns-in-Err-2 c =
    let none = rw c.as_slice.ensures.value at c.in-Err.ensures.none in
    record {
      said = packet_passed c.args.task c.args.dictionary.now c.args.self.now (captured_of c.args.packet.now) c.in-Err.why
          c.first_known_time-self.result _ _ c.first_known_time-self.ensures none
          (sym c.is_other_protocol.ensures ∙ c.if-is_other_protocol.false) c.count_if_fragment_or_cut.ensures;
    }
