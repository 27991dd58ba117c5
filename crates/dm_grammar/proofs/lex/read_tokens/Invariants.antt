use Rattle.std.proofs.Common.{◌≡◌, ◌+◌, ◌-◌, ◌≤◌, ◌++◌, length, drop, map}
use Rattle.dm_grammar.specs.Tokens.{tokens_from, tokens}
use Rattle.dm_grammar.specs.Views.{view_word}
use Rattle.dm_grammar.proofs.lex.read_tokens.Given as goal

-- the tokens found, and those of the rest
abbrev pub invariant-loop-token : goal.invariant-loop-token
invariant-loop-token l = record {
  within : l.at ≤ length l.text;
  lines : l.line ≤ l.at + 1;
  same : map view_word l.found.items ++ tokens_from 0 l.line (drop l.at l.text) ≡ tokens l.text;
}

abbrev pub decreases-loop-token : goal.decreases-loop-token
decreases-loop-token l = length l.text - l.at
