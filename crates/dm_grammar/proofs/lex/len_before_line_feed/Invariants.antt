use Rattle.std.proofs.Common.{◌≡◌, ◌+◌, ◌-◌, ◌≤◌, length, drop}
use Rattle.std.specs.List.{prefix_len}
use Rattle.dm_grammar.specs.Symbols.{not_line_end}
use Rattle.dm_grammar.proofs.lex.len_before_line_feed.Given as goal

-- what is counted and what is still to count make the whole
abbrev pub invariant-loop-n : goal.invariant-loop-n
invariant-loop-n l =
    (l.n ≤ length l.text) × (l.n + prefix_len not_line_end (drop l.n l.text) ≡ prefix_len not_line_end l.text)

abbrev pub decreases-loop-n : goal.decreases-loop-n
decreases-loop-n l = length l.text - l.n
