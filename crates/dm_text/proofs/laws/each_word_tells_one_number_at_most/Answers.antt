use Rattle.std.proofs.Common.{sym, ◌∙◌}
use Rattle.dm_text.proofs.laws.each_word_tells_one_number_at_most.Goals as goal

pub returns : goal.returns
returns c = λ most n k word told other. sym told.1 ∙ other.1
