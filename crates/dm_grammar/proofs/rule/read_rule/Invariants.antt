use Rattle.std.proofs.Common.{◌≡◌, ◌≤◌, length, map}
use Rattle.dm_grammar.specs.Places.GrammarPlace.{InRule}
use Rattle.dm_grammar.specs.Told.{collect}
use Rattle.dm_grammar.specs.Views.{view_entry, view_words}
use Rattle.dm_grammar.proofs.RuleEntries.{with_entries}
use Rattle.dm_grammar.proofs.rule.read_rule.Given as goal

-- the entries read, and what the rest tells
abbrev pub invariant-loop-how : goal.invariant-loop-how
invariant-loop-how l = record {
  shorter : length l.rest ≤ length l.tokens;
  tells : collect l.how InRule (view_words l.tokens) ≡ with_entries (map view_entry l.entries.items)
      (collect l.how InRule (view_words l.rest));
}

abbrev pub decreases-loop-how : goal.decreases-loop-how
decreases-loop-how l = length l.rest
