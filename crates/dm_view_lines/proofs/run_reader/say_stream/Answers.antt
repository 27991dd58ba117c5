use Rattle.dm_view_lines.specs.Colours.{styled, SaysStreamStyled}
use Rattle.dm_view_lines.specs.Ending.{SaysStreamFront}
use Rattle.dm_view_lines.specs.Speakers.{ReadsLine}
use Rattle.dm_view_lines.proofs.RunSaid.{ends_at}
use Rattle.dm_view_lines.proofs.StreamSaid.{stream_ended, stream_left, stream_front, Stops}
use Rattle.dm_view_lines.proofs.run_reader.say_stream.Goals as goal

pub returns-in-Ok : goal.returns-in-Ok
returns-in-Ok g c =
    let cuts = c.cuts_change_no_frames.ensures in
    let stays = c.faults_of_streams_stay.ensures in
    let frames = c.frames_in_a_row_stay_themselves.ensures in
    let by : Stops cuts stays frames c.args.coloured c.args.task c.args.dictionary.now c.new-speaker.result
    c.say_and_count_reader_lines-said.new.speaker c.in-Ok.field-0.1 c.why_stopped-stop.result c.tally-tally.result = record {
      begins = c.new-speaker.ensures.goes;
      none = c.new-speaker.ensures.held;
      nothing = c.new-speaker.ensures.tally;
      goes = c.in-Ok.ensures.goes;
      stopped = c.why_stopped-stop.ensures.stopped;
      held = c.why_stopped-stop.ensures.going;
      is = c.tally-tally.ensures;
    } in
    record {
      written = stream_ended cuts stays frames _ _ _ c.new-speaker.result c.say_and_count_reader_lines-said.new.speaker
          c.in-Ok.field-0.0 c.in-Ok.field-0.1 c.why_stopped-stop.result c.tally-tally.result
          c.write_ending_of_stream.result _ _ _ _ by
          c.in-Ok.ensures.told c.write_ending_of_stream.ensures.written;
      stopped = stream_left cuts stays frames _ _ _ c.new-speaker.result c.say_and_count_reader_lines-said.new.speaker
          c.in-Ok.field-0.0 c.in-Ok.field-0.1 c.why_stopped-stop.result c.tally-tally.result
          c.write_ending_of_stream.result _ _ _ _ _ by
          c.in-Ok.ensures.told c.write_ending_of_stream.ensures.stopped;
    }

pub returns-in-Err-clause-stopped : goal.returns-in-Err-clause-stopped
returns-in-Err-clause-stopped g c =
    ends_at (styled c.args.coloured c.args.task) (ReadsLine c.args.dictionary.now c.args.task)
    (SaysStreamFront c.args.coloured c.args.task c.args.dictionary.now)
    (SaysStreamStyled c.args.coloured c.args.task c.args.dictionary.now) c.new-speaker.result _ _ _ _ _
    (stream_front c.cuts_change_no_frames.ensures c.faults_of_streams_stay.ensures c.frames_in_a_row_stay_themselves.ensures c.args.coloured c.args.task
    c.args.dictionary.now c.new-speaker.result c.new-speaker.ensures.goes c.new-speaker.ensures.held
    c.new-speaker.ensures.tally) c.in-Err.ensures.stopped
