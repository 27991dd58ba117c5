use Rattle.dm_replay.proofs.SomeReads.{some_read, some_replay}
use Rattle.dm_replay.proofs.laws.each_text_has_a_replay.Goals as goal

pub returns : goal.returns
returns c = record { read = some_read c.each_text_is_script_bad_or_comments.ensures; replay = some_replay c.each_text_is_script_bad_or_comments.ensures }
