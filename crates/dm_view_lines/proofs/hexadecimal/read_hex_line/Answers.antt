-- A line of one word stands for what the word does.
use Rattle.dm_view_lines.proofs.hexadecimal.read_hex_line.Goals as goal

pub returns-then-is_surely_one_long_word : goal.returns-then-is_surely_one_long_word
returns-then-is_surely_one_long_word c = rw (c.is_surely_one_long_word.ensures c.if-is_surely_one_long_word.true) c.read_hex_word.ensures
