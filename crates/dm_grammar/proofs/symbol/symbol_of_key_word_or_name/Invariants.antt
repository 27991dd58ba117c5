use Rattle.std.proofs.Common.{◌≡◌, map, drop}
use Rattle.dm_grammar.specs.Symbols.{key_word, key_words, symbol_among}
use Rattle.dm_grammar.proofs.symbol.symbol_of_key_word_or_name.Given as goal

-- none of the rows before is the word
abbrev pub invariant-loop-row : goal.invariant-loop-row
invariant-loop-row l = symbol_among key_words l.word ≡ symbol_among (map key_word (drop l.row-index l.row-items)) l.word
