use Rattle.dm_replay.proofs.SomeScripts.{some_script}
use Rattle.dm_replay.proofs.laws.each_text_is_script_bad_or_comments.Goals as goal

pub returns : goal.returns
returns c = some_script c.joined_lines_have_joined_content.ensures c.each_word_tells_number_or_none.ensures
