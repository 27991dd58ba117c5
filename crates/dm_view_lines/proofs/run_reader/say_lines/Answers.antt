use Rattle.dm_view_lines.specs.Colours.{styled, SaysStyled}
use Rattle.dm_view_lines.specs.Ending.{SaysFront}
use Rattle.dm_view_lines.specs.Speakers.{CountsOneLine}
use Rattle.dm_view_lines.proofs.RunSaid.{end_told, end_within, end_unwritten, ends_at, lines_front}
use Rattle.dm_view_lines.proofs.run_reader.say_lines.Goals as goal

pub returns-in-Ok-clause-written : goal.returns-in-Ok-clause-written
returns-in-Ok-clause-written g c =
    end_told _ _ _ c.new-speaker.result c.say_and_count_reader_lines-said.new.speaker c.in-Ok.field-0.0 c.in-Ok.field-0.1 _
    c.write_ending_of_lines.result _ _ _ _ c.new-speaker.ensures c.in-Ok.ensures.goes c.in-Ok.ensures.told
    c.tally-tally.ensures
    c.write_ending_of_lines.ensures.written c.write_ending_of_lines.ensures.good

pub returns-in-Ok-clause-within : goal.returns-in-Ok-clause-within
returns-in-Ok-clause-within g c =
    end_within c.args.coloured c.args.task c.args.dictionary.now c.new-speaker.result
    c.say_and_count_reader_lines-said.new.speaker c.in-Ok.field-0.0 c.in-Ok.field-0.1 c.write_ending_of_lines.result _ _ _ c.in-Ok.ensures.goes c.in-Ok.ensures.told

pub returns-in-Ok-clause-stopped : goal.returns-in-Ok-clause-stopped
returns-in-Ok-clause-stopped g c =
    end_unwritten _ _ _ c.new-speaker.result c.say_and_count_reader_lines-said.new.speaker c.in-Ok.field-0.0 c.in-Ok.field-0.1 _
    c.write_ending_of_lines.result _ _ _ _ _ c.new-speaker.ensures c.in-Ok.ensures.goes c.in-Ok.ensures.told
    c.tally-tally.ensures
    c.write_ending_of_lines.ensures.stopped

pub returns-in-Err-clause-stopped : goal.returns-in-Err-clause-stopped
returns-in-Err-clause-stopped g c =
    ends_at (styled c.args.coloured c.args.task) (CountsOneLine c.args.dictionary.now c.args.task)
    (SaysFront c.args.coloured c.args.task c.args.dictionary.now)
    (SaysStyled c.args.coloured c.args.task c.args.dictionary.now) c.new-speaker.result _ _ _ _ _
    (lines_front c.args.coloured c.args.task c.args.dictionary.now c.new-speaker.result) c.in-Err.ensures.stopped
