use Rattle.std.proofs.Common.{◌≡◌, ◌++◌, length}
use Rattle.dm_view_lines.specs.Digits.{digits_of_words}
use Rattle.dm_view_lines.proofs.hexadecimal.set_digits_of_words.Given as goal

-- those of the words that are left come behind the digits so far
abbrev pub invariant-words : goal.invariant-words
invariant-words l = l.digits.items ++ digits_of_words l.left ≡ digits_of_words l.fn.words

abbrev pub decreases-words : goal.decreases-words
decreases-words l = length l.left
