use Rattle.dm_grammar.proofs.Words.{name_symbol}
use Rattle.dm_grammar.proofs.law.words_not_all_digits_are_names.Goals as goal

pub returns : goal.returns
returns c = record { name = name_symbol }
