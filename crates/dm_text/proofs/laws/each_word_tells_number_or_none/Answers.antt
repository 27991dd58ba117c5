use Rattle.dm_text.proofs.Telling.{number_or_none}
use Rattle.dm_text.proofs.laws.each_word_tells_number_or_none.Goals as goal

pub returns : goal.returns
returns c = number_or_none
