use Rattle.std.proofs.Common.{◌≡◌, ◌+◌, ◌-◌, ◌≤◌, length, drop}
use Rattle.dm_grammar.specs.Tokens.{tokens_from}
use Rattle.dm_grammar.proofs.lex.next_token.Given as goal

-- no token stands between the place where the search began and the place reached
abbrev pub invariant-loop-at : goal.invariant-loop-at
invariant-loop-at l = record {
  within : l.at ≤ length l.text;
  ahead : l.initial.at ≤ l.at;
  lines : l.line ≤ l.at + 1;
  same : tokens_from 0 l.line (drop l.at l.text) ≡ tokens_from 0 l.initial.line (drop l.initial.at l.text);
}

abbrev pub decreases-loop-at : goal.decreases-loop-at
decreases-loop-at l = length l.text - l.at
