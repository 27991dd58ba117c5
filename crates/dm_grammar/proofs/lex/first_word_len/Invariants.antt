use Rattle.std.proofs.Common.{◌≡◌, ◌+◌, ◌-◌, ◌≤◌, length, drop}
use Rattle.std.specs.List.{prefix_len}
use Rattle.dm_grammar.specs.Symbols.{goes_on}
use Rattle.dm_grammar.proofs.lex.first_word_len.Given as goal

-- what is counted and what is still to count make the whole
abbrev pub invariant-loop-n : goal.invariant-loop-n
invariant-loop-n l = (l.n ≤ length l.text) × (l.n + prefix_len goes_on (drop l.n l.text) ≡ prefix_len goes_on l.text)

abbrev pub decreases-loop-n : goal.decreases-loop-n
decreases-loop-n l = length l.text - l.n
